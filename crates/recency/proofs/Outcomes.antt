-- What a request answers, by what it finds.
use Rattle.std.proofs.Common.{◌≡◌, ℕ, ◌<◌, ◌≤◌, true, false, List, length}
use Rattle.std.proofs.lemmas.Bool.{lt-ltb, le-ltb}
use Rattle.paging.specs.Lists.{has, last_of}
use Rattle.recency.specs.Outcome.{outcome}
use Rattle.recency.specs.declared.uses.Outcome.TheVariants.{Hit, Filled, Evicted}

module _ (k : ℕ) (cache : List ℕ) (page : ℕ) where
  pub outcome_hit : has cache page ≡ true → Hit ≡ outcome k cache page
  unfolding outcome
  outcome_hit there = simp there

  pub outcome_filled : has cache page ≡ false → length cache < k → Filled ≡ outcome k cache page
  unfolding outcome
  outcome_filled absent room = simp (absent, lt-ltb (length cache) k room)

  pub outcome_evicted : has cache page ≡ false → k ≤ length cache → Evicted (last_of cache) ≡ outcome k cache page
  unfolding outcome
  outcome_evicted absent full = simp (absent, le-ltb (length cache) k full)
