-- The rules of a cache and the place where they are broken first, against each other.
use Rattle.std.proofs.Common.{◌≡◌, ℕ, suc, Bool, true, false, cond, not, ◌||◌, leb, List, [], ◌∷◌, length, Some, None, Option, refl, arith}
use Rattle.std.proofs.lemmas.Bool.Decides.{nat_tests}
use Rattle.paging.specs.Guarded.{kept}
use Rattle.paging.specs.Lists.{has}
use Rattle.paging.specs.Policies.{Policy, keeps}
use Rattle.paging.specs.Schedules.{only_adds}
use Rattle.paging.specs.Stepwise.{Position}
use Rattle.lru_cache.specs.declared.refusals.Refusal.{Refusal}
use Rattle.adversary.specs.Rules.{first_odd, lacking, or_else, broken}
use Rattle.runs.specs.Runs.{broken_after, earlier}
use Rattle.adversary.specs.Steps.{exhausted, refusal, told}

-- what none tells of the tests before it
cond_none : {X : Type 0} (t : Bool) (x : X) (o : Option X) → cond t (Some x) o ≡ None → (t ≡ false) × (o ≡ None)
cond_none true x o e = let z : ◌≡◌ {A = ℕ} 0 1 = cc in absurd (omega arith)
cond_none false x o e = (refl, e)

cond_some : {X : Type 0} (t : Bool) (x : X) (o : Option X) → cond t o (Some x) ≡ None → (t ≡ true) × (o ≡ None)
cond_some true x o e = (refl, e)
cond_some false x o e = let z : ◌≡◌ {A = ℕ} 0 1 = cc in absurd (omega arith)

or_none : (a b : Option ℕ) → or_else a b ≡ None → (a ≡ None) × (b ≡ None)
or_none None b e = (refl, e)
or_none (Some x) b e = let z : ◌≡◌ {A = ℕ} 0 1 = cc in absurd (omega arith)

told_none : (o : Option ℕ) (e : Option Refusal) → told o e ≡ None → o ≡ None
told_none None e is = refl
told_none (Some at) e is = let z : ◌≡◌ {A = ℕ} 0 1 = cc in absurd (omega arith)

pub refusal_none : (k : ℕ) (p : Position) (asked before shown : List ℕ) → refusal k p asked before shown ≡ None → broken k asked before shown ≡ None
unfolding refusal
refusal_none k p asked before shown none = told_none (broken k asked before shown) (exhausted k p) none

-- from no place to the rules

odd_only_adds : (at : ℕ) (seen : List ℕ) (page : ℕ) (before shown : List ℕ) → first_odd at seen (page ∷ before) shown ≡ None → only_adds shown page before ≡ true
unfolding first_odd only_adds has
odd_only_adds at seen page before [] none = refl
odd_only_adds at seen page before (x ∷ xs) none =
    let n = cond_none (has seen x || not (has (page ∷ before) x)) at (first_odd (suc at) (x ∷ seen) (page ∷ before) xs) none in
    let i = odd_only_adds (suc at) (x ∷ seen) page before xs n.1 in
    let here = n.0 in
    grind (arith, nat_tests)

unbroken_keeps : (k page : ℕ) (before shown : List ℕ) → broken k (page ∷ []) before shown ≡ None → keeps k before page shown ≡ true
unfolding broken keeps
unbroken_keeps k page before shown none =
    let a = cond_some (leb (length shown) k) (length shown) (or_else (first_odd 0 [] (page ∷ before) shown) (lacking (page ∷ []) shown)) none in
    let b = or_none (first_odd 0 [] (page ∷ before) shown) (lacking (page ∷ []) shown) a.1 in
    let there = go (has shown page) b.1 in
    let adds = odd_only_adds 0 [] page before shown b.0 in
    let few = a.0 in
    grind (arith, nat_tests)
  where
    go : (t : Bool) → cond t None (Some (length shown)) ≡ None → t ≡ true
    go t e = (cond_some t (length shown) None e).0

unbroken_nothing : (k : ℕ) (shown : List ℕ) → broken k [] [] shown ≡ None → leb (length shown) 0 ≡ true
unfolding broken first_odd has
unbroken_nothing k [] none = refl
unbroken_nothing k (x ∷ xs) none =
    let a = cond_some (leb (length (x ∷ xs)) k) (length (x ∷ xs)) (Some 0) none in
    let e = a.1 in
    let z : ◌≡◌ {A = ℕ} 0 1 = cc in
    absurd (omega arith)

pub kept_now : (k : ℕ) (policy : Policy) (history : List ℕ) → earlier k policy history ≡ true → broken_after k policy history ≡ None → kept k policy history ≡ true
unfolding kept
kept_now k policy [] before none = unbroken_nothing k (policy []) none
kept_now k policy (page ∷ history) before none =
    let n = unbroken_keeps k page (policy history) (policy (page ∷ history)) none in
    grind (arith, nat_tests)
