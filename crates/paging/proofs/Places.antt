-- Laws of the place of a page in a list, for a loop that looks for it from the front, and whether it is there.
use Rattle.std.proofs.Common.{◌≡◌, ℕ, suc, ◌+◌, ◌<◌, ◌≤◌, cond, eqb, ltb, List, [], ◌∷◌, length, get_or, drop, refl, ◌∙◌, arith}
use Rattle.std.proofs.lemmas.List.{at_drop_more, at_drop_all}
use Rattle.std.proofs.lemmas.Bool.Decides.{nat_tests}
use Rattle.paging.specs.Lists.{has, place}

pub has_place : (x : ℕ) (xs : List ℕ) → has xs x ≡ ltb (place x xs) (length xs)
unfolding has place
has_place x [] = refl
has_place x (y ∷ ys) = let i = has_place x ys in grind (arith, nat_tests)

pub place_le : (x : ℕ) (xs : List ℕ) → place x xs ≤ length xs
unfolding place
place_le x [] = omega arith
place_le x (y ∷ ys) = let i = place_le x ys in grind (arith, nat_tests)

pub place_first : (x : ℕ) (xs : List ℕ) → place x (x ∷ xs) ≡ 0
unfolding place
place_first x xs = grind (arith, nat_tests)

pub place_found : (x : ℕ) (xs : List ℕ) (k : ℕ) → k < length xs → get_or xs k 0 ≡ x → place x (drop k xs) ≡ 0
place_found x xs k lt e = at_drop_more (place x) xs k 0 lt ∙ rw e (place_first x (drop (k + 1) xs))

pub place_more :
    (x : ℕ) (xs : List ℕ) (k : ℕ) → k < length xs → (get_or xs k 0 ≡ x → ⊥) → k + place x (drop k xs) ≡ (k + 1) + place x (drop (k + 1) xs)
unfolding place
place_more x xs k lt n =
    let i : place x (drop k xs) ≡ cond (eqb (get_or xs k 0) x) 0 (suc (place x (drop (k + 1) xs))) = at_drop_more (place x) xs k 0 lt in
    grind (arith, nat_tests)

pub place_all : (x : ℕ) (xs : List ℕ) (k : ℕ) → length xs ≤ k → place x (drop k xs) ≡ 0
unfolding place
place_all x xs k le = at_drop_all (place x) xs k le
