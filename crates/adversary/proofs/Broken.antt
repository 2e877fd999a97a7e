-- Where what is shown breaks the rules first, test by test.
use Rattle.std.proofs.Common.{◌≡◌, ℕ, ◌<◌, ◌≤◌, true, false, List, [], ◌∷◌, length, Some, None, Option, sym, refl, ap, ◌∙◌, ⊎_elim, arith}
use Rattle.std.proofs.lemmas.Bool.{cases_lt, le-leb, lt-leb, lt-ltb, le-ltb}
use Rattle.paging.specs.Lists.{has}
use Rattle.lru_cache.specs.declared.refusals.Refusal.{Refusal}
use Rattle.lru_cache.specs.declared.refusals.Refusal.TheVariants.{BrokenRule}
use Rattle.adversary.specs.Rules.{first_odd, broken}
use Rattle.adversary.specs.declared.challenge.Challenge.{Challenge}
use Rattle.adversary.specs.Places.{asked_in, shown_in}
use Rattle.adversary.specs.Steps.{told, fault_in}

pub broken_over : (k : ℕ) (asked before shown : List ℕ) → k < length shown → broken k asked before shown ≡ Some (length shown)
unfolding broken
broken_over k asked before shown over = simp (lt-leb (length shown) k over)

pub broken_unasked : (k : ℕ) (shown : List ℕ) → 0 < length shown → length shown ≤ k → broken k [] [] shown ≡ Some 0
unfolding broken first_odd has
broken_unasked k [] some few = absurd (omega arith)
broken_unasked k (x ∷ shown) some few = simp (le-leb (length (x ∷ shown)) k few)

pub broken_nothing : (k : ℕ) → broken k [] [] [] ≡ None
unfolding broken first_odd
broken_nothing k = simp (le-leb 0 k (omega arith))

module _ (k asked : ℕ) (before shown : List ℕ) (few : length shown ≤ k) where
  pub broken_odd : (at : ℕ) → first_odd 0 [] (asked ∷ before) shown ≡ Some at → broken k (asked ∷ []) before shown ≡ Some at
  unfolding broken
  broken_odd at odd = simp (le-leb (length shown) k few, odd)

  pub broken_lacking :
      first_odd 0 [] (asked ∷ before) shown ≡ None → has shown asked ≡ false → broken k (asked ∷ []) before shown ≡ Some (length shown)
  unfolding broken
  broken_lacking none absent = simp (le-leb (length shown) k few, none, absent)

  pub broken_none : first_odd 0 [] (asked ∷ before) shown ≡ None → has shown asked ≡ true → broken k (asked ∷ []) before shown ≡ None
  unfolding broken
  broken_none none there = simp (le-leb (length shown) k few, none, there)

-- a place told as a refusal
pub told_at : (o : Option ℕ) (at : ℕ) → o ≡ Some at → told o None ≡ Some (BrokenRule at)
told_at o at e = ap (λ (p : Option ℕ). told p None) e

pub told_first : (o : Option ℕ) (further : Option Refusal) (e : Refusal) → told o None ≡ Some e → told o further ≡ Some e
told_first None further e is = let z : ◌≡◌ {A = ℕ} 0 1 = cc in absurd (omega arith)
told_first (Some at) further e is = is

module _ (c : Challenge) (row shown : List ℕ) where
  pub fault_over : c.k < length shown → fault_in c row shown ≡ Some (BrokenRule (length shown))
  fault_over over = told_at _ (length shown) (broken_over c.k (asked_in c) (shown_in c row) shown over)

  -- before the first request
  module _ (first : c.next ≤ 1) where
    pub broken_first : broken c.k (asked_in c) (shown_in c row) shown ≡ broken c.k [] [] shown
    broken_first =
        let older = c.older in
        let none : c.shown ≡ 0 = c.unseen (omega arith) in
        let unasked = le-ltb 1 c.next first in
        rw (none, unasked)

    pub fault_first : 0 < length shown → length shown ≤ c.k → fault_in c row shown ≡ Some (BrokenRule 0)
    fault_first some few = told_at _ 0 (broken_first ∙ broken_unasked c.k shown some few)

    pub unasked_none : broken c.k (asked_in c) (shown_in c row) shown ≡ None → length shown ≤ c.k → length shown ≡ 0
    unasked_none none few = ⊎_elim some nothing (cases_lt 0 (length shown))
      where
        some : 0 < length shown → length shown ≡ 0
        some lt =
            let w : Some (BrokenRule 0) ≡ None = sym (fault_first lt few) ∙ ap (λ (o : Option ℕ). told o None) none in
            let z : ◌≡◌ {A = ℕ} 0 1 = cc in
            absurd (omega arith)

        nothing : length shown ≤ 0 → length shown ≡ 0
        nothing le = omega arith

  -- and after one
  module _ (begun : 1 < c.next) (few : length shown ≤ c.k) where
    asked_is : asked_in c ≡ c.last ∷ []
    asked_is = let t = lt-ltb 1 c.next begun in simp t

    pub fault_odd : (e : Refusal) → told (first_odd 0 [] (c.last ∷ shown_in c row) shown) None ≡ Some e → fault_in c row shown ≡ Some e
    fault_odd e is = go (first_odd 0 [] (c.last ∷ shown_in c row) shown) refl is
      where
        go : (o : Option ℕ) → first_odd 0 [] (c.last ∷ shown_in c row) shown ≡ o → told o None ≡ Some e → fault_in c row shown ≡ Some e
        go None odd is' = let z : ◌≡◌ {A = ℕ} 0 1 = cc in absurd (omega arith)
        go (Some at) odd is' =
            let b = broken_odd c.k c.last (shown_in c row) shown few at odd in
            told_at _ at (rw asked_is b) ∙ is'

    module _ (none : first_odd 0 [] (c.last ∷ shown_in c row) shown ≡ None) where
      pub fault_lacking : has shown c.last ≡ false → fault_in c row shown ≡ Some (BrokenRule (length shown))
      fault_lacking absent = told_at _ (length shown) (rw asked_is (broken_lacking c.k c.last (shown_in c row) shown few none absent))

      pub broken_after : has shown c.last ≡ true → broken c.k (asked_in c) (shown_in c row) shown ≡ None
      broken_after there = rw asked_is (broken_none c.k c.last (shown_in c row) shown few none there)
