-- What is counted of a trace. Assumes nothing: these are definitions.
--     TallyOf fetches trace hits    for every c the numbers of hits before place c and the fetches with c places make up the requests of trace
--     Tally trace hits              the same of LRU's fetches
--     Left hits requests row        row has at each place what is left of the requests without the hits up to there
--     FetchesOf fetches trace row   row has the fetches from an empty cache with 1, 2 .. places
--     Fetches trace row             row has LRU's
--     Counted trace m row row'      row' has LRU's fetches with 1, 2 .. m places, and beyond them it is row
use Rattle.std.specs.Prelude.{◌≡◌, ℕ, ◌+◌, ◌-◌, ◌≤◌, List, [], length, take, drop, sum, slice_index}
use Rattle.paging.specs.Lru.{lru_fetches}

abbrev pub TallyOf : (ℕ → List ℕ → List ℕ → ℕ) → List ℕ → List ℕ → Type 0
TallyOf fetches trace hits = (c : ℕ) → 1 ≤ c → c ≤ length hits → fetches c [] trace + sum (take c hits) ≡ length trace

abbrev pub Tally : List ℕ → List ℕ → Type 0
Tally = TallyOf lru_fetches

abbrev pub Left : List ℕ → ℕ → List ℕ → Type 0
Left hits requests row = (c : ℕ) → 1 ≤ c → c ≤ length row → slice_index row (c - 1) + sum (take c hits) ≡ requests

abbrev pub FetchesOf : (ℕ → List ℕ → List ℕ → ℕ) → List ℕ → List ℕ → Type 0
FetchesOf fetches trace row = (c : ℕ) → 1 ≤ c → c ≤ length row → slice_index row (c - 1) ≡ fetches c [] trace

abbrev pub Fetches : List ℕ → List ℕ → Type 0
Fetches = FetchesOf lru_fetches

pub record Counted (trace : List ℕ) (m : ℕ) (row row' : List ℕ) : Type 0 where
  pub fetches : (c : ℕ) → 1 ≤ c → c ≤ m → slice_index row' (c - 1) ≡ lru_fetches c [] trace
  pub beyond : drop m row' ≡ drop m row
