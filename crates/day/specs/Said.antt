-- What is said of a trace. Assumes nothing: these are definitions.
--     is_capacity k                 k is 1 to 4,096
--     Ready row m                   the row is a cache row that an index row of m numbers is long enough for, or its capacity is none
--     Reply                         what a request found, or why it was turned away
--     answered result n found       the replies to n requests that were played, with what they found, or turned away whole
--     answers k cache trace         the replies to the requests of trace; a k that is no capacity turns each away
--     cache_at_end k cache trace    the cache after the trace
--     served page o                 the line of a request for page that found o
--     said page r                   what is said of a request for page with the reply r
--     lines_of trace rs             the lines of requests with their replies, each with a line break
--     lines_for k cache trace       the lines of the requests of trace
use Rattle.std.specs.Prelude.{◌≡◌, ℕ, Bool, true, cond, ◌&&◌, List, [], ◌∷◌, ◌++◌, map, length, take, replicate, None, Ok, Err, Result, nat_le}
use Rattle.paging.specs.Lru.{lru_after}
use Rattle.recency.specs.declared.uses.Outcome.{Outcome}
use Rattle.recency.specs.declared.uses.Outcome.TheVariants.{Hit, Filled, Evicted}
use Rattle.lru_cache.specs.Outcomes.{outcomes}
use Rattle.lru_cache.specs.Refusals.{refusal_bytes}
use Rattle.lru_cache.specs.Rows.{capacity, fault}
use Rattle.lru_cache.specs.declared.refusals.Refusal.{Refusal}
use Rattle.lru_cache.specs.declared.refusals.Refusal.TheVariants.{NoCache}
use Rattle.trace.specs.Lines.{line_bytes}
use Rattle.trace.specs.declared.lines.Line.{Line}
use Rattle.trace.specs.declared.lines.Line.TheVariants.{Here, Fetched, FetchedFor}

abbrev pub is_capacity : ℕ → Bool
is_capacity k = nat_le 1 k && nat_le k 4096

abbrev pub Ready : List ℕ → ℕ → Type 0
Ready row m = is_capacity (capacity row) ≡ true → fault row m ≡ None

abbrev pub Reply : Type 0
Reply = Result Outcome Refusal

abbrev pub answered : {T : Type 0} → Result T Refusal → ℕ → List Outcome → List Reply
answered (Ok done) n found = map Ok (take n found)
answered (Err e) n found = replicate n (Err e)

unfoldable pub answers : ℕ → List ℕ → List ℕ → List Reply
answers k cache trace = cond (is_capacity k) (map Ok (outcomes k cache trace)) (replicate (length trace) (Err NoCache))

unfoldable pub cache_at_end : ℕ → List ℕ → List ℕ → List ℕ
cache_at_end k cache trace = cond (is_capacity k) (lru_after k cache trace) cache

abbrev pub served : ℕ → Outcome → Line
served page Hit = Here page
served page Filled = Fetched page
served page (Evicted gone) = FetchedFor page gone

abbrev pub said : ℕ → Reply → List ℕ
said page (Ok o) = line_bytes (served page o)
said page (Err e) = refusal_bytes e

unfoldable pub lines_of : List ℕ → List Reply → List ℕ
lines_of [] rs = []
lines_of (page ∷ trace) [] = []
lines_of (page ∷ trace) (r ∷ rs) = said page r ++ (10 ∷ lines_of trace rs)

unfoldable pub lines_for : ℕ → List ℕ → List ℕ → List ℕ
lines_for k cache trace = lines_of trace (answers k cache trace)
