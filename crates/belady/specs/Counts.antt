-- What is counted of a trace. Assumes nothing: these are definitions.
--     Tally trace hits      hits has at each place how many requests of trace find their page there: the hits below place c and what
--                           Belady's rule fetches with c places are all the requests
--     Fetches trace row     row has what Belady's rule fetches from an empty cache with 1, 2 .. places
--     uncounted h trace     why the fetches of trace with h places are not counted: it is longer than 4,096, or h is no capacity; or None
use Rattle.std.specs.Prelude.{List, ℕ, ◌&&◌, cond, None, Some, Option, length, nat_le}
use Rattle.std.specs.Option.{option_or}
use Rattle.paging.specs.Belady.{belady_fetches}
use Rattle.lru_cache.specs.declared.refusals.Refusal.{Refusal}
use Rattle.lru_cache.specs.declared.refusals.Refusal.TheVariants.{NoCache}
use Rattle.curve.specs.Refused.{too_long}
use Rattle.curve.specs.Counts.{TallyOf, FetchesOf}

abbrev pub Tally : List ℕ → List ℕ → Type 0
Tally = TallyOf belady_fetches

abbrev pub Fetches : List ℕ → List ℕ → Type 0
Fetches = FetchesOf belady_fetches

abbrev pub uncounted : ℕ → List ℕ → Option Refusal
uncounted h trace = option_or (too_long (length trace)) (cond (nat_le 1 h && nat_le h 4096) None (Some NoCache))
