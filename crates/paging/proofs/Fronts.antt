-- A cache that begins another one, after the same requests too: more places never fetch more, nor does a fuller start.
--     begins xs ys     xs is the beginning of ys
use Rattle.std.proofs.Common.{◌≡◌, ℕ, zero, suc, ◌+◌, ◌≤◌, Bool, true, false, ◌&&◌, eqb, List, [], ◌∷◌, ◌++◌, take, refl, arith}
use Rattle.std.proofs.lemmas.List.{take-take}
use Rattle.std.proofs.lemmas.Bool.Decides.{nat_tests}
use Rattle.paging.specs.Claims.{Inclusion, Split}
use Rattle.paging.specs.Lists.{has, without}
use Rattle.paging.specs.Lru.{lru, lru_after, lru_fetches}
use Rattle.paging.proofs.Lists.{Within}
use Rattle.paging.proofs.Recency.{recency}

unfoldable pub begins : List ℕ → List ℕ → Bool
begins [] ys = true
begins (x ∷ xs) [] = false
begins (x ∷ xs) (y ∷ ys) = eqb x y && begins xs ys

pub begins_within : (xs ys : List ℕ) → begins xs ys ≡ true → Within xs ys
unfolding begins has
begins_within [] ys b z h = grind (arith, nat_tests)
begins_within (x ∷ xs) [] b z h = grind (arith, nat_tests)
begins_within (x ∷ xs) (y ∷ ys) b z h = let i = begins_within xs ys in grind (arith, nat_tests)

pub begins_without : (z : ℕ) (xs ys : List ℕ) → begins xs ys ≡ true → begins (without z xs) (without z ys) ≡ true
unfolding begins without
begins_without z [] ys b = refl
begins_without z (x ∷ xs) [] b = grind (arith, nat_tests)
begins_without z (x ∷ xs) (y ∷ ys) b = let i = begins_without z xs ys in grind (arith, nat_tests)

pub begins_take : (k j : ℕ) (xs ys : List ℕ) → k ≤ j → begins xs ys ≡ true → begins (take k xs) (take j ys) ≡ true
unfolding begins
begins_take zero j xs ys le b = refl
begins_take (suc k) j [] ys le b = refl
begins_take (suc k) zero (x ∷ xs) ys le b = grind (arith, nat_tests)
begins_take (suc k) (suc j) (x ∷ xs) [] le b = b
begins_take (suc k) (suc j) (x ∷ xs) (y ∷ ys) le b = let i = begins_take k j xs ys in grind (arith, nat_tests)

module _ (k j : ℕ) (le : k ≤ j) where
  begins_lru : (small large : List ℕ) (page : ℕ) → begins small large ≡ true → begins (lru k small page) (lru j large page) ≡ true
  unfolding begins lru
  begins_lru small large page b =
      let i = begins_without page small large b in
      begins_take k j (page ∷ without page small) (page ∷ without page large) le (grind (arith, nat_tests))

  pub begins_after :
      (small large trace : List ℕ) → begins small large ≡ true →
      begins (lru_after k small trace) (lru_after j large trace) ≡ true
  unfolding lru_after
  begins_after small large [] b = b
  begins_after small large (page ∷ trace) b = begins_after (lru k small page) (lru j large page) trace (begins_lru small large page b)

  pub begins_fetches : (small large trace : List ℕ) → begins small large ≡ true → lru_fetches j large trace ≤ lru_fetches k small trace
  unfolding lru_fetches
  begins_fetches small large [] b = omega arith
  begins_fetches small large (page ∷ trace) b =
      let i = begins_fetches (lru k small page) (lru j large page) trace (begins_lru small large page b) in
      let h = begins_within small large b page in
      grind (arith, nat_tests)

pub after_append : (k : ℕ) (cache trace rest : List ℕ) → lru_after k cache (trace ++ rest) ≡ lru_after k (lru_after k cache trace) rest
unfolding lru_after
after_append k cache [] rest = refl
after_append k cache (page ∷ trace) rest = after_append k (lru k cache page) trace rest

pub fetches_append :
    (k : ℕ) (cache trace rest : List ℕ) →
    lru_fetches k cache (trace ++ rest) ≡ lru_fetches k cache trace + lru_fetches k (lru_after k cache trace) rest
unfolding lru_fetches lru_after
fetches_append k cache [] rest = omega arith
fetches_append k cache (page ∷ trace) rest = let i = fetches_append k (lru k cache page) trace rest in grind (arith, nat_tests)

pub inclusion : Inclusion
unfolding begins
inclusion k j trace le =
    let a = (recency k trace).0 in
    let b = (recency j trace).0 in
    (rw (a, b, take-take k j) refl, begins_fetches k j le [] [] trace refl)

pub split : Split
unfolding begins
split k trace rest = (fetches_append k [] trace rest, begins_fetches k k (omega arith) [] (lru_after k [] trace) rest refl)
