-- The page that Belady's rule evicts stands where the largest key does, the first of several.
use Rattle.std.proofs.Common.{◌≡◌, ℕ, zero, suc, ◌<◌, ◌≤◌, cond, ltb, List, [], ◌∷◌, length, get_or, refl, arith}
use Rattle.std.proofs.lemmas.Bool.Decides.{nat_tests}
use Rattle.paging.specs.Belady.{next_use, furthest}

-- none is further than best
stays : (xs coming : List ℕ) (best : ℕ) → ((j : ℕ) → j < length xs → next_use (get_or xs j 0) coming ≤ next_use best coming) → furthest xs coming best ≡ best
unfolding furthest
stays [] coming best most = refl
stays (x ∷ xs) coming best most =
    let a = most 0 (omega arith) in
    let i = stays xs coming best (λ j lt. most (suc j) (omega arith)) in
    grind (arith, nat_tests)

-- the first of the furthest, or best where that is as far
furthest_from :
    (xs coming : List ℕ) (best at : ℕ) → at < length xs →
    ((j : ℕ) → j < length xs → next_use (get_or xs j 0) coming ≤ next_use (get_or xs at 0) coming) →
    ((j : ℕ) → j < at → next_use (get_or xs j 0) coming < next_use (get_or xs at 0) coming) →
    furthest xs coming best ≡ cond (ltb (next_use best coming) (next_use (get_or xs at 0) coming)) (get_or xs at 0) best
unfolding furthest
furthest_from [] coming best at lt most first = absurd (omega arith)
furthest_from (x ∷ xs) coming best zero lt most first =
    let a = stays xs coming x (λ j lt. most (suc j) (omega arith)) in
    let b : next_use x coming ≤ next_use best coming → furthest xs coming best ≡ best =
    λ le. stays xs coming best (λ j lt. let m = most (suc j) (omega arith) in omega arith) in
    grind (arith, nat_tests)
furthest_from (x ∷ xs) coming best (suc at) lt most first =
    let f = first 0 (omega arith) in
    let i = λ (b : ℕ). furthest_from xs coming b at (omega arith) (λ j lt. most (suc j) (omega arith)) (λ j lt. first (suc j) (omega arith)) in
    let a = i x in
    let b = i best in
    grind (arith, nat_tests)

pub furthest_at :
    (xs coming : List ℕ) (page at : ℕ) → at < length xs →
    ((j : ℕ) → j < length xs → next_use (get_or xs j 0) coming ≤ next_use (get_or xs at 0) coming) →
    ((j : ℕ) → j < at → next_use (get_or xs j 0) coming < next_use (get_or xs at 0) coming) →
    furthest xs coming (get_or xs 0 page) ≡ get_or xs at 0
furthest_at [] coming page at lt most first = absurd (omega arith)
furthest_at (x ∷ xs) coming page zero lt most first = let i = furthest_from (x ∷ xs) coming x 0 lt most first in grind (arith, nat_tests)
furthest_at (x ∷ xs) coming page (suc at) lt most first =
    let i = furthest_from (x ∷ xs) coming x (suc at) lt most first in
    let f = first 0 (omega arith) in
    grind (arith, nat_tests)
