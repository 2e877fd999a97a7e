-- The first reason to make no report, where those before it do not apply.
use Rattle.std.proofs.Common.{◌≡◌, ℕ, ◌*◌, ◌<◌, ◌≤◌, true, false, ◌||◌, eqb, ltb, ◌⊎◌, List, length, Some, None, refl, arith}
use Rattle.std.proofs.lemmas.Bool.{le-ltb}
use Rattle.std.proofs.lemmas.Bool.Decides.{nat_tests}
use Rattle.lru_cache.specs.declared.refusals.Refusal.{Refusal}
use Rattle.lru_cache.specs.declared.refusals.Refusal.TheVariants.{BadCapacities}
use Rattle.lru_cache.specs.Rows.{first_wide}
use Rattle.curve.specs.Refused.{refusal}

module _ (trace : List ℕ) (m len : ℕ) where
  pub refused_wide : (e : Refusal) → first_wide trace ≡ Some e → refusal trace m len ≡ Some e
  unfolding refusal
  refused_wide e wide = rw wide refl

  module _ (narrow : first_wide trace ≡ None) where
    module _ (short : length trace ≤ 4096) where
      pub refused_capacities : (m ≡ 0) ⊎ (4096 < m) → refusal trace m len ≡ Some (BadCapacities m)
      unfolding refusal
      refused_capacities bad =
          let t : (eqb m 0 || ltb 4096 m) ≡ true = grind (arith, nat_tests) in
          rw (narrow, le-ltb 4096 (length trace) short, t) refl

      module _ (low : 1 ≤ m) (high : m ≤ 4096) where
        ranged : (eqb m 0 || ltb 4096 m) ≡ false
        ranged = grind (arith, nat_tests)

        pub refused_none : 2 * m ≤ len → refusal trace m len ≡ None
        unfolding refusal
        refused_none enough = rw (narrow, le-ltb 4096 (length trace) short, ranged, le-ltb len (2 * m) enough) refl
