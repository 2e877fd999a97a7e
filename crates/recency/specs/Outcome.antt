-- What a request answers. Assumes nothing: these are definitions.
--     fits k n                a row of n numbers is long enough for k pages, and k is a capacity
--     outcome k cache page    what a request for page finds in cache, of capacity k
use Rattle.std.specs.Prelude.{ℕ, ◌+◌, ◌*◌, Bool, cond, ◌&&◌, List, length, nat_le, nat_lt}
use Rattle.paging.specs.Lists.{has, last_of}
use Rattle.recency.specs.declared.uses.Outcome.{Outcome}
use Rattle.recency.specs.declared.uses.Outcome.TheVariants.{Hit, Filled, Evicted}

abbrev pub fits : ℕ → ℕ → Bool
fits k n = nat_le 1 k && (nat_le k 4096 && nat_le (9 * k + 5) n)

unfoldable pub outcome : ℕ → List ℕ → ℕ → Outcome
outcome k cache page = cond (has cache page) Hit (cond (nat_lt (length cache) k) Filled (Evicted (last_of cache)))
