-- Laws of has, without, distinct and take on lists of pages.
--     Within xs ys     each page of xs stands in ys
use Rattle.std.proofs.Common.{◌≡◌, ℕ, zero, suc, ◌+◌, true, false, cond, List, [], ◌∷◌, length, take, refl, arith}
use Rattle.std.proofs.lemmas.List.{take-take}
use Rattle.std.proofs.lemmas.Bool.Decides.{nat_tests}
use Rattle.paging.specs.Lists.{has, without, distinct}

abbrev pub Within : List ℕ → List ℕ → Type 0
Within xs ys = (x : ℕ) → has xs x ≡ true → has ys x ≡ true

pub take_none : (k : ℕ) → take {A = ℕ} k [] ≡ []
take_none zero = refl
take_none (suc k) = refl

-- without

pub has_without : (x : ℕ) (xs : List ℕ) (y : ℕ) → (x ≡ y → ⊥) → has (without x xs) y ≡ has xs y
unfolding has without
has_without x [] y n = refl
has_without x (z ∷ xs) y n = let i = has_without x xs y n in grind (arith, nat_tests)

pub has_from_without : (x : ℕ) (xs : List ℕ) (y : ℕ) → has (without x xs) y ≡ true → has xs y ≡ true
unfolding has without
has_from_without x [] y h = h
has_from_without x (z ∷ xs) y h = let i = has_from_without x xs y in grind (arith, nat_tests)

-- moved to the front: the same pages, and x
pub has_front : (x : ℕ) (xs : List ℕ) (y : ℕ) → has (x ∷ without x xs) y ≡ has (x ∷ xs) y
unfolding has
has_front x xs y = let i = has_without x xs y in grind (arith, nat_tests)

pub without_absent : (x : ℕ) (xs : List ℕ) → has xs x ≡ false → without x xs ≡ xs
unfolding has without
without_absent x [] h = refl
without_absent x (z ∷ xs) h = let i = without_absent x xs in grind (arith, nat_tests)

pub length_without : (x : ℕ) (xs : List ℕ) → length (without x xs) + cond (has xs x) 1 0 ≡ length xs
unfolding has without
length_without x [] = refl
length_without x (z ∷ xs) = let i = length_without x xs in grind (arith, nat_tests)

pub take_without : (k x : ℕ) (xs : List ℕ) → take k (without x (take (suc k) xs)) ≡ take k (without x xs)
unfolding without
take_without k x [] = refl
take_without zero x (z ∷ xs) = refl
take_without (suc k) x (z ∷ xs) = let i = take_without k x xs in let j = take-take (suc k) (suc k) xs in grind (arith, nat_tests)

-- distinct

pub without_gone : (x : ℕ) (xs : List ℕ) → distinct xs ≡ true → has (without x xs) x ≡ false
unfolding has without distinct
without_gone x [] d = refl
without_gone x (z ∷ xs) d = let i = without_gone x xs in grind (arith, nat_tests)

pub distinct_without : (x : ℕ) (xs : List ℕ) → distinct xs ≡ true → distinct (without x xs) ≡ true
unfolding has without distinct
distinct_without x [] d = refl
distinct_without x (z ∷ xs) d = let i = distinct_without x xs in let j = has_from_without x xs z in grind (arith, nat_tests)

-- take

pub has_from_take : (k : ℕ) (xs : List ℕ) (x : ℕ) → has (take k xs) x ≡ true → has xs x ≡ true
unfolding has
has_from_take zero xs x h = grind (arith, nat_tests)
has_from_take (suc k) [] x h = h
has_from_take (suc k) (z ∷ xs) x h = let i = has_from_take k xs x in grind (arith, nat_tests)

pub distinct_take : (k : ℕ) (xs : List ℕ) → distinct xs ≡ true → distinct (take k xs) ≡ true
unfolding has distinct
distinct_take zero xs d = refl
distinct_take (suc k) [] d = refl
distinct_take (suc k) (z ∷ xs) d = let i = distinct_take k xs in let j = has_from_take k xs z in grind (arith, nat_tests)
