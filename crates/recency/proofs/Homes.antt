-- The slots of one home among others.
use Rattle.std.proofs.Common.{◌≡◌, ℕ, ◌≤◌, true, ◌≢◌, false, List, [], ◌∷◌, ◌++◌, length, sym, refl, ap, arith}
use Rattle.std.proofs.lemmas.Bool.Decides.{nat_tests}
use Rattle.paging.specs.Lists.{has, distinct}
use Rattle.paging.proofs.Appends.{has_none}
use Rattle.recency.specs.Row.{homed}

module _ (f : ℕ → ℕ) (h : ℕ) where
  pub homed_own : (s : ℕ) (xs : List ℕ) → f s ≡ h → homed f h (s ∷ xs) ≡ s ∷ homed f h xs
  unfolding homed
  homed_own s xs e = grind (arith, nat_tests)

  pub homed_other : (s : ℕ) (xs : List ℕ) → f s ≢ h → homed f h (s ∷ xs) ≡ homed f h xs
  unfolding homed
  homed_other s xs ne = grind (arith, nat_tests)

  pub homed_append : (xs ys : List ℕ) → homed f h (xs ++ ys) ≡ homed f h xs ++ homed f h ys
  unfolding homed
  homed_append [] ys = refl
  homed_append (x ∷ xs) ys = let i = homed_append xs ys in grind (arith, nat_tests)

  pub homed_there : (xs : List ℕ) (s : ℕ) → has (homed f h xs) s ≡ true → (has xs s ≡ true) × (f s ≡ h)
  unfolding homed has
  homed_there [] s there = let e : true ≡ false = sym there in absurd (grind (arith, nat_tests))
  homed_there (x ∷ xs) s there = let i = homed_there xs s in let e : x ≡ s → f x ≡ f s = ap f in (grind (arith, nat_tests), grind (arith, nat_tests))

  pub there_homed : (xs : List ℕ) (s : ℕ) → has xs s ≡ true → f s ≡ h → has (homed f h xs) s ≡ true
  unfolding homed has
  there_homed [] s there e = there
  there_homed (x ∷ xs) s there e = let i = there_homed xs s in let e' : x ≡ s → f x ≡ f s = ap f in grind (arith, nat_tests)

  pub homed_once : (xs : List ℕ) → distinct xs ≡ true → distinct (homed f h xs) ≡ true
  unfolding homed distinct
  homed_once [] once = once
  homed_once (x ∷ xs) once =
      let i = homed_once xs in
      let absent : has xs x ≡ false → has (homed f h xs) x ≡ false = λ n. has_none (homed f h xs) x (λ t. let b = (homed_there xs x t).0 in grind (arith, nat_tests)) in
      grind (arith, nat_tests)

  pub homed_short : (xs : List ℕ) → length (homed f h xs) ≤ length xs
  unfolding homed
  homed_short [] = omega arith
  homed_short (x ∷ xs) = let i = homed_short xs in grind (arith, nat_tests)

pub homed_same : (f g : ℕ → ℕ) (h : ℕ) (xs : List ℕ) → ((s : ℕ) → has xs s ≡ true → f s ≡ g s) → homed f h xs ≡ homed g h xs
unfolding homed has
homed_same f g h [] same = refl
homed_same f g h (x ∷ xs) same =
    let i = homed_same f g h xs (λ s t. same s (grind (arith, nat_tests))) in
    let e = same x (grind (arith, nat_tests)) in
    grind (arith, nat_tests)
