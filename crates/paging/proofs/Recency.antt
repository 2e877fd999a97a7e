-- An LRU cache is the beginning of the pages requested last.
use Rattle.std.proofs.Common.{◌≡◌, ℕ, zero, suc, true, List, [], ◌∷◌, take, refl, ap, arith}
use Rattle.std.proofs.lemmas.List.{length-take}
use Rattle.std.proofs.lemmas.Bool.Decides.{nat_tests}
use Rattle.paging.specs.Claims.{Recency}
use Rattle.paging.specs.Lists.{without, distinct}
use Rattle.paging.specs.Lru.{lru, lru_after}
use Rattle.paging.specs.Stretches.{last_requested}
use Rattle.paging.proofs.Lists.{take_none, take_without, distinct_take, without_gone, distinct_without}

-- what lies beyond the first k never comes back into them
pub lru_take : (k page : ℕ) (seen : List ℕ) → lru k (take k seen) page ≡ take k (page ∷ without page seen)
unfolding lru
lru_take zero page seen = refl
lru_take (suc k) page seen = ap (λ xs. page ∷ xs) (take_without k page seen)

pub recent : (k : ℕ) (trace seen : List ℕ) → lru_after k (take k seen) trace ≡ take k (last_requested trace seen)
unfolding lru_after last_requested
recent k [] seen = refl
recent k (page ∷ trace) seen = rw lru_take (recent k trace (page ∷ without page seen))

pub last_requested_distinct : (trace seen : List ℕ) → distinct seen ≡ true → distinct (last_requested trace seen) ≡ true
unfolding last_requested distinct
last_requested_distinct [] seen d = d
last_requested_distinct (page ∷ trace) seen d =
    let i = without_gone page seen in
    let j = distinct_without page seen in
    last_requested_distinct trace (page ∷ without page seen) (grind (arith, nat_tests))

pub recency : Recency
unfolding distinct
recency k trace =
    let e : lru_after k [] trace ≡ take k (last_requested trace []) = rw take_none at (recent k trace []) in
    (e, rw e (distinct_take k _ (last_requested_distinct trace [] refl)), rw (e, length-take) (omega arith))
