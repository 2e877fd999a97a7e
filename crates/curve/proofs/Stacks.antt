-- The first n of a row of numbers as a stack of pages: looking for a page from the front, and putting one in front.
use Rattle.std.proofs.Common.{◌≡◌, ℕ, zero, suc, ◌+◌, ◌-◌, ◌<◌, ◌≤◌, min, true, false, List, [], ◌∷◌, ◌++◌, length, take, drop, refl, inl, inr, add-one, arith}
use Rattle.std.proofs.lemmas.List.{length-take, length-take-le, take_all, take-take}
use Rattle.std.proofs.lemmas.Bool.{cases_lt}
use Rattle.std.proofs.lemmas.Bool.Decides.{nat_tests}
use Rattle.paging.specs.Lists.{has, without, place}
use Rattle.paging.specs.Lru.{lru}
use Rattle.paging.proofs.Lists.{without_absent, length_without}
use Rattle.paging.proofs.Places.{has_place}

-- a page in front of the first `end`, over the one that stands after them

abbrev pub lifted : ℕ → ℕ → List ℕ → List ℕ
lifted page end pages = page ∷ (take end pages ++ drop (end + 1) pages)

pub taken_out :
    (page : ℕ) (pages : List ℕ) (n d : ℕ) → suc n ≤ length pages → d < suc n → d ≡ place page (take (suc n) pages) →
    take n (take d pages ++ drop (suc d) pages) ≡ without page (take (suc n) pages)
unfolding without place
taken_out page [] n d le lt e = absurd (omega arith)
taken_out page (x ∷ xs) zero zero le lt e = grind (arith, nat_tests)
taken_out page (x ∷ xs) zero (suc d) le lt e = absurd (omega arith)
taken_out page (x ∷ xs) (suc n) zero le lt e = grind (arith, nat_tests)
taken_out page (x ∷ xs) (suc n) (suc d) le lt e = let i = taken_out page xs n d in grind (arith, nat_tests)

taken_twice : (m n e : ℕ) (xs : List ℕ) → e ≡ min m n → take m (take n xs) ≡ take e xs
taken_twice m n e xs is =
    elim (cases_lt m n) [
      | inl lt ↦ let same : e ≡ m = omega arith in rw same (take-take m n xs (omega arith))
      | inr le ↦ let same : e ≡ n = omega arith in let len = length-take n xs in rw same (take_all m (take n xs) (omega arith))
    ]

module _ (page : ℕ) (pages : List ℕ) (n : ℕ) (within : n ≤ length pages) where
  pub stack_found : (d : ℕ) → d ≡ place page (take n pages) → d < n → has (take n pages) page ≡ true
  stack_found d e lt = let len = length-take-le n pages within in let h = has_place page (take n pages) in grind (arith, nat_tests)

-- the page stood there: those before it move
out_at : (page : ℕ) (pages : List ℕ) (d : ℕ) → d ≡ place page pages → d < length pages → take d pages ++ drop (suc d) pages ≡ without page pages
unfolding without place
out_at page [] d e lt = absurd (omega arith)
out_at page (x ∷ xs) zero e lt = grind (arith, nat_tests)
out_at page (x ∷ xs) (suc d) e lt = let i = out_at page xs d in grind (arith, nat_tests)

pub lifted_found :
    (page : ℕ) (pages : List ℕ) (m d : ℕ) → length pages ≤ m → has pages page ≡ true → d ≡ place page pages → d < length pages →
    lifted page d pages ≡ lru m pages page
unfolding lru
lifted_found page pages m d few there e lt =
    let many = length_without page pages in
    let all = take_all m (page ∷ without page pages) (grind (arith, nat_tests)) in
    rw (all, add-one, out_at page pages d e lt) refl

-- it did not: where m stand there already the last goes
pub lifted_absent :
    (page : ℕ) (pages front : List ℕ) (m : ℕ) → 1 ≤ m → front ≡ take (m - 1) pages → has pages page ≡ false → page ∷ front ≡ lru m pages page
unfolding lru
lifted_absent page pages front zero pos is absent = absurd (omega arith)
lifted_absent page pages front (suc m) pos is absent = let less : suc m - 1 ≡ m = omega arith in rw (is, less, without_absent page pages absent) refl
