-- The first c of the sifted row are a Belady cache for every c: so one pass gives the offline optimum at every capacity.
use Rattle.std.proofs.Common.{◌≡◌, ℕ, zero, suc, ◌+◌, ◌<◌, true, false, cond, ltb, List, [], ◌∷◌, length, get_or, take, drop, refl, arith}
use Rattle.std.proofs.lemmas.List.{length-take, take-take, drop_more}
use Rattle.std.proofs.lemmas.Bool.Decides.{nat_tests}
use Rattle.paging.specs.Belady.{furthest, belady, belady_fetches}
use Rattle.paging.specs.Claims.{OnePass}
use Rattle.paging.specs.Distance.{found}
use Rattle.paging.specs.Lists.{has, without, distinct, place}
use Rattle.paging.specs.Sifted.{sifted, sift, row_hits}
use Rattle.paging.proofs.Belady.{victim, victim_in, belady_served, belady_same}
use Rattle.paging.proofs.Distance.{has_take}
use Rattle.paging.proofs.Lists.{take_none, without_gone, distinct_without, distinct_take}
use Rattle.paging.proofs.Soon.{soon}
use Rattle.paging.proofs.Tallies.{Steps}
use Rattle.paging.proofs.Weights.{total, total_without}

-- the pages of the row are carry and those that were there, without the page requested

has_sifted : (coming : List ℕ) (page carry : ℕ) (row : List ℕ) (z : ℕ) → has (sifted coming page carry row) z ≡ has (carry ∷ without page row) z
unfolding has without sifted
has_sifted coming page carry [] z = refl
has_sifted coming page carry (x ∷ xs) z =
    let i = has_sifted coming page carry xs z in
    let j = has_sifted coming page x xs z in
    grind (arith, nat_tests)

sifted_distinct :
    (coming : List ℕ) (page carry : ℕ) (row : List ℕ) → distinct (carry ∷ without page row) ≡ true →
    distinct (sifted coming page carry row) ≡ true
unfolding has without distinct sifted
sifted_distinct coming page carry [] d = d
sifted_distinct coming page carry (x ∷ xs) d =
    let i = sifted_distinct coming page carry xs in
    let j = sifted_distinct coming page x xs in
    let a = has_sifted coming page carry xs x in
    let b = has_sifted coming page x xs carry in
    grind (arith, nat_tests)

pub sifted_once : (requests : List ℕ) (page : ℕ) (row : List ℕ) → distinct row ≡ true → distinct (sifted requests page page row) ≡ true
unfolding distinct
sifted_once requests page row d =
    let a = without_gone page row d in
    let b = distinct_without page row d in
    sifted_distinct requests page page row (grind (arith, nat_tests))

-- what is carried beyond the first c of the row: the page requested where it stood there, nothing where there was a place left, else the one of
-- them and carry with the furthest next use
sifted_total :
    (f : ℕ → ℕ) (coming : List ℕ) (page c carry : ℕ) (row : List ℕ) →
    total f (take c (sifted coming page carry row))
    + cond (has (take c row) page) (f page) (cond (ltb (length row) c) 0 (f (furthest (take c row) coming carry)))
    ≡ f carry + total f (take c row)
unfolding has total furthest sifted
sifted_total f coming page zero carry row = grind (arith, nat_tests)
sifted_total f coming page (suc c) carry [] = let n = take_none c in grind (arith, nat_tests)
sifted_total f coming page (suc c) carry (x ∷ xs) =
    let i = sifted_total f coming page c carry xs in
    let j = sifted_total f coming page c x xs in
    grind (arith, nat_tests)

-- the furthest is the same one, seen from the request and from after it

furthest_after :
    (page : ℕ) (coming xs : List ℕ) (best : ℕ) → has xs page ≡ false → (best ≡ page → ⊥) →
    furthest xs (page ∷ coming) best ≡ furthest xs coming best
unfolding has place furthest
furthest_after page coming [] best absent n = refl
furthest_after page coming (x ∷ xs) best absent n =
    let i = furthest_after page coming xs x in
    let j = furthest_after page coming xs best in
    grind (arith, nat_tests)

furthest_first_of :
    (page : ℕ) (coming : List ℕ) (xs : List ℕ) → has xs page ≡ false → 0 < length xs →
    furthest xs (page ∷ coming) page ≡ furthest xs coming (get_or xs 0 page)
unfolding has place furthest
furthest_first_of page coming [] absent pos = grind (arith, nat_tests)
furthest_first_of page coming (x ∷ xs) absent pos = let i = furthest_after page coming xs x in grind (arith, nat_tests)

-- one request: the same pages as by Belady's rule from the same cache

sift_total :
    (f : ℕ → ℕ) (c : ℕ) (row : List ℕ) (page : ℕ) (coming : List ℕ) → 0 < c →
    total f (belady c (take c row) page coming) ≡ total f (take c (sift row page coming))
unfolding total belady victim sift
sift_total f c row page coming pos =
    let cache = take c row in
    let s = sifted_total f (page ∷ coming) page c page row in
    let l = length-take c row in
    let v = furthest_first_of page coming cache in
    let t = victim_in cache page coming in
    let w = total_without f (victim cache page coming) cache in
    grind (arith, nat_tests)

sift_step :
    (c : ℕ) (row : List ℕ) (page : ℕ) (coming : List ℕ) → 0 < c → distinct row ≡ true →
    belady_fetches c (take c row) (page ∷ coming) ≡ cond (found c page row) 0 1 + belady_fetches c (take c (sift row page coming)) coming
unfolding belady_fetches sift
sift_step c row page coming pos d =
    let cache = take c row in
    let next = take c (sift row page coming) in
    let l = length-take c row in
    let s = belady_served c cache page coming pos (distinct_take c row d) (omega arith) in
    let u = distinct_take c (sift row page coming) (sifted_once (page ∷ coming) page row d) in
    let m = length-take c (sift row page coming) in
    let same = λ (t : ℕ). sift_total (soon t coming) c row page coming pos in
    let i = belady_same c (belady c cache page coming) next coming pos s.once s.fits u (omega arith) same in
    let a = has_take c page row in
    rw a (grind (arith, nat_tests))

-- at every capacity up to the m places that the row is cut to
pub sift_steps :
    (m : ℕ) (row : List ℕ) (page : ℕ) (coming : List ℕ) → distinct row ≡ true →
    Steps belady_fetches m row page coming (take m (sift row page coming))
sift_steps m row page coming d c pos le = rw (take-take c m (sift row page coming) le) (sift_step c row page coming pos d)

-- the same, where the page is the i-th request of a trace
pub sift_steps_at :
    (m : ℕ) (row trace : List ℕ) (i page : ℕ) → i < length trace → get_or trace i 0 ≡ page → distinct row ≡ true →
    Steps belady_fetches m row page (drop (i + 1) trace) (take m (sifted (drop i trace) page page row))
unfolding sift
sift_steps_at m row trace i page lt here d = rw (drop_more trace i 0 lt, here) (sift_steps m row page (drop (i + 1) trace) d)

-- and it stands first then
first_of : (m page : ℕ) (coming row : List ℕ) → 0 < m → get_or (take m (sifted (page ∷ coming) page page row)) 0 0 ≡ page
unfolding place sifted
first_of zero page coming row pos = grind (arith, nat_tests)
first_of (suc m) page coming [] pos = refl
first_of (suc m) page coming (x ∷ xs) pos = grind (arith, nat_tests)

pub first_sifted :
    (m : ℕ) (row trace : List ℕ) (i page : ℕ) → 0 < m → i < length trace → get_or trace i 0 ≡ page →
    get_or (take m (sifted (drop i trace) page page row)) 0 0 ≡ page
first_sifted m row trace i page pos lt here = rw (drop_more trace i 0 lt, here) (first_of m page (drop (i + 1) trace) row pos)

pub row_from :
    (c : ℕ) (row trace : List ℕ) → 0 < c → distinct row ≡ true → belady_fetches c (take c row) trace + row_hits c row trace ≡ length trace
unfolding belady_fetches sift row_hits
row_from c row [] pos d = refl
row_from c row (page ∷ trace) pos d =
    let s = sift_step c row page trace pos d in
    let i = row_from c (sift row page trace) trace pos (sifted_once (page ∷ trace) page row d) in
    grind (arith, nat_tests)

pub one_pass : OnePass
unfolding distinct
one_pass c trace pos = rw take_none at (row_from c [] trace pos refl)
