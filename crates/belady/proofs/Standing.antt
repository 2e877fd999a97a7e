-- Where a page stands that is read at a place.
use Rattle.std.proofs.Common.{◌≡◌, ℕ, zero, suc, ◌<◌, ◌≤◌, true, false, List, [], ◌∷◌, length, get_or, Option, Some, None, MatchOption, ◌+◌, arith}
use Rattle.std.proofs.lemmas.Bool.Decides.{nat_tests}
use Rattle.paging.specs.Lists.{has, distinct, place}
use Rattle.paging.proofs.Places.{has_place, place_le}

pub place_before : (xs : List ℕ) (j : ℕ) → j < length xs → place (get_or xs j 0) xs ≤ j
unfolding place
place_before [] j lt = absurd (omega arith)
place_before (x ∷ xs) zero lt = grind (arith, nat_tests)
place_before (x ∷ xs) (suc j) lt = let i = place_before xs j in grind (arith, nat_tests)

pub place_at : (xs : List ℕ) (j : ℕ) → distinct xs ≡ true → j < length xs → place (get_or xs j 0) xs ≡ j
unfolding distinct place
place_at [] j d lt = absurd (omega arith)
place_at (x ∷ xs) zero d lt = grind (arith, nat_tests)
place_at (x ∷ xs) (suc j) d lt =
    let i = place_at xs j in
    let h = has_place (get_or xs j 0) xs in
    grind (arith, nat_tests)

pub get_or_place : (x : ℕ) (xs : List ℕ) (k : ℕ) → k ≡ place x xs → k < length xs → get_or xs k 0 ≡ x
unfolding place
get_or_place x [] k at lt = absurd (omega arith)
get_or_place x (y ∷ ys) zero at lt = grind (arith, nat_tests)
get_or_place x (y ∷ ys) (suc k) at lt = let i = get_or_place x ys k in grind (arith, nat_tests)

pub place_absent : (x : ℕ) (xs : List ℕ) → has xs x ≡ false → place x xs ≡ length xs
place_absent x xs absent = let h = has_place x xs in let l = place_le x xs in grind (arith, nat_tests)

-- a place that was found is handed on, or the end
pub next_told :
    (x : ℕ) (xs : List ℕ) (i n r : ℕ) (found : Option ℕ) (Q : ℕ → Type 0) →
    MatchOption found (has xs x ≡ false) (λ at. (has xs x ≡ true) × (at ≡ place x xs) × (at < length xs)) → MatchOption found (r ≡ n) Q →
    ((at : ℕ) → Q at → r ≡ i + at) → n ≡ i + length xs → r ≡ i + place x xs
next_told x xs i n r None Q absent end past size = let p = place_absent x xs absent in omega arith
next_told x xs i n r (Some at) Q here told past size = let p = past at told in let q = here.1 in omega arith
