-- What is promised of a whole challenge of one of the library's policies, for every answer r. Assumes nothing: these are definitions.
--     no_contest k h n             why there is no challenge of k places beside h whose counts go to a row of n numbers, or None
--     Contested k h m counts r ..  it was played to its end, or there was no memory and nothing has changed
--     Counted k h m c              these are the counts after m rounds
--     Ended k h m counts r ..      m rounds were played: how many requests there were, how many the policy fetched, how many the schedule
use Rattle.std.specs.Prelude.{◌≡◌, ℕ, suc, ◌+◌, ◌-◌, ◌*◌, cond, ◌&&◌, ◌⊎◌, List, ◌∷◌, drop, Some, None, Option, nat_le}
use Rattle.lru_cache.specs.declared.refusals.Refusal.{Refusal}
use Rattle.lru_cache.specs.declared.refusals.Refusal.TheVariants.{NoCache, BadPlaces}
use Rattle.trace.specs.declared.totals.Totals.{Totals}
use Rattle.ffi.specs.Numbers.{as_count, starved}

abbrev pub no_contest : ℕ → ℕ → ℕ → Option Refusal
no_contest k h n =
    cond (nat_le 3 n && (nat_le 1 k && nat_le k 4096)) (cond (nat_le 1 h && nat_le h k) None (Some (BadPlaces h))) (Some NoCache)

pub record Counted (k h m : ℕ) (c : Totals) : Type 0 where
  pub asked : c.asked ≡ h + m * k
  pub keeper : c.keeper ≡ h + m * k
  pub rival : c.rival ≡ h + m * (suc k - h)

pub record Ended (k h m : ℕ) (counts : List ℕ) (r : ℕ) (counts' : List ℕ) : Type 0 where
  pub value : r ≡ as_count (h + m * k)
  pub after : counts' ≡ (h + m * k) ∷ (h + m * k) ∷ (h + m * (suc k - h)) ∷ drop 3 counts

abbrev pub Contested : ℕ → ℕ → ℕ → List ℕ → ℕ → List ℕ → Type 0
Contested k h m counts r counts' = ((r ≡ starved) × (counts' ≡ counts)) ⊎ Ended k h m counts r counts'
