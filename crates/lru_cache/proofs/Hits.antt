-- What an outcome tells of the pages that the index held.
use Rattle.std.proofs.Common.{◌≡◌, ℕ, Bool, true, false, cond, ltb, List, length, refl, arith}
use Rattle.paging.specs.Lists.{has, last_of}
use Rattle.recency.specs.Outcome.{outcome}
use Rattle.recency.specs.declared.uses.Outcome.{Outcome}
use Rattle.recency.specs.declared.uses.Outcome.TheVariants.{Hit, Filled, Evicted}
use Rattle.lru_cache.specs.Outcomes.{fetches_of}

chosen : ℕ → Bool → Bool → Outcome
chosen page there room = cond there Hit (cond room Filled (Evicted page))

never_hit : (page : ℕ) (room : Bool) → Hit ≡ chosen page false room → ⊥
unfolding chosen
never_hit page true e = let z : ◌≡◌ {A = ℕ} 0 1 = cc in omega arith
never_hit page false e = let z : ◌≡◌ {A = ℕ} 0 1 = cc in omega arith

was_there : (page : ℕ) (there room : Bool) → Hit ≡ chosen page there room → there ≡ true
was_there page true room e = refl
was_there page false room e = absurd (never_hit page room e)

was_not : (page : ℕ) (there room : Bool) (o : Outcome) → o ≡ chosen page there room → (o ≡ Hit → ⊥) → there ≡ false
unfolding chosen
was_not page true room o e not-hit = absurd (not-hit e)
was_not page false room o e not-hit = refl

costs : (page : ℕ) (there room : Bool) → fetches_of (chosen page there room) ≡ cond there 0 1
unfolding chosen
costs page true room = refl
costs page false true = refl
costs page false false = refl

module _ (k : ℕ) (cache : List ℕ) (page : ℕ) where
  pub hit_there : Hit ≡ outcome k cache page → has cache page ≡ true
  unfolding outcome chosen
  hit_there e = was_there (last_of cache) (has cache page) (ltb (length cache) k) e

  pub no_hit_absent : (o : Outcome) → o ≡ outcome k cache page → (o ≡ Hit → ⊥) → has cache page ≡ false
  unfolding outcome chosen
  no_hit_absent o e not-hit = was_not (last_of cache) (has cache page) (ltb (length cache) k) o e not-hit

  pub outcome_fetches : fetches_of (outcome k cache page) ≡ cond (has cache page) 0 1
  unfolding outcome chosen
  outcome_fetches = costs (last_of cache) (has cache page) (ltb (length cache) k)
