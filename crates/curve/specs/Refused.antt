-- When no report is made, and why. Assumes nothing: these are definitions.
--     too_long n                the refusal of a trace of n requests that is longer than 4,096
--     no_capacities m           the refusal of a number of capacities m that is 0 or above 4,096
--     too_short m len           the refusal of a row of len numbers that is shorter than two for each of the m capacities
--     refusal trace m len       that of the first page that is not below 2^32, or the first of these that applies, or None
--     Checked trace m len       there is none, and the sizes are in bounds
use Rattle.std.specs.Prelude.{◌≡◌, ℕ, ◌*◌, ◌≤◌, ◌||◌, List, length, None, Option, ◌==◌, nat_lt}
use Rattle.std.specs.Option.{option_or}
use Rattle.std.specs.Bool.{then_some}
use Rattle.lru_cache.specs.declared.refusals.Refusal.{Refusal}
use Rattle.lru_cache.specs.declared.refusals.Refusal.TheVariants.{LongTrace, BadCapacities, ShortReport}
use Rattle.lru_cache.specs.Rows.{first_wide}

abbrev pub too_long : ℕ → Option Refusal
too_long n = then_some (nat_lt 4096 n) (LongTrace n)

abbrev pub no_capacities : ℕ → Option Refusal
no_capacities m = then_some (m == 0 || nat_lt 4096 m) (BadCapacities m)

abbrev pub too_short : ℕ → ℕ → Option Refusal
too_short m len = then_some (nat_lt len (2 * m)) (ShortReport len)

unfoldable pub refusal : List ℕ → ℕ → ℕ → Option Refusal
refusal trace m len = option_or (first_wide trace) (option_or (too_long (length trace)) (option_or (no_capacities m) (too_short m len)))

pub record Checked (trace : List ℕ) (m len : ℕ) : Type 0 where
  pub short : length trace ≤ 4096
  pub low : 1 ≤ m
  pub high : m ≤ 4096
  pub long : 2 * m ≤ len
  pub none : refusal trace m len ≡ None
