-- The different pages of a stretch that a cache lacks: each is fetched once at least, and with room for all of them once at most.
use Rattle.std.proofs.Common.{◌≡◌, ℕ, ◌+◌, ◌≤◌, cond, not, ◌&&◌, List, [], ◌∷◌, refl, arith}
use Rattle.std.proofs.lemmas.Bool.Decides.{nat_tests}
use Rattle.paging.specs.Claims.{ColdFetches, Compulsory}
use Rattle.paging.specs.Lists.{has, without}
use Rattle.paging.specs.Lru.{lru, lru_fetches}
use Rattle.paging.specs.Schedules.{feasible, schedule_fetches}
use Rattle.paging.specs.Stretches.{different, missing}
use Rattle.paging.proofs.Lists.{Within, has_front, has_from_take}
use Rattle.paging.proofs.Schedules.{only_adds_within}

pub missing_none : (trace : List ℕ) → missing [] trace ≡ trace
unfolding missing has
missing_none [] = refl
missing_none (page ∷ trace) = let i = missing_none trace in grind (arith, nat_tests)

pub has_missing : (cache trace : List ℕ) (x : ℕ) → has (missing cache trace) x ≡ (not (has cache x) && has trace x)
unfolding missing has
has_missing cache [] x = grind (arith, nat_tests)
has_missing cache (page ∷ trace) x = let i = has_missing cache trace x in grind (arith, nat_tests)

-- who holds more lacks less
pub missing_within :
    (cache larger trace : List ℕ) → Within cache larger →
    different (missing larger trace) ≤ different (missing cache trace)
unfolding missing different
missing_within cache larger [] w = omega arith
missing_within cache larger (page ∷ trace) w =
    let i = missing_within cache larger trace w in
    let a = w page in
    let b = has_missing cache trace page in
    let c = has_missing larger trace page in
    grind (arith, nat_tests)

-- a page more in the cache is a page less that it lacks, if it is requested and was lacking
missing_added :
    (page : ℕ) (cache trace : List ℕ) →
    different (missing (page ∷ cache) trace) + cond (has (missing cache trace) page) 1 0 ≡ different (missing cache trace)
unfolding missing different has
missing_added page cache [] = refl
missing_added page cache (x ∷ trace) =
    let i = missing_added page cache trace in
    let a = has_missing cache trace x in
    let b = has_missing (page ∷ cache) trace x in
    grind (arith, nat_tests)

pub missing_more :
    (cache : List ℕ) (page : ℕ) (trace : List ℕ) →
    different (missing cache (page ∷ trace)) ≡ cond (has cache page) 0 1 + different (missing (page ∷ cache) trace)
unfolding missing different
missing_more cache page trace =
    let i = missing_added page cache trace in
    let a = has_missing cache trace page in
    grind (arith, nat_tests)

-- at least once

-- a request brings a cache one page that it lacks, at most, and that by a fetch
missing_step :
    (cache : List ℕ) (page : ℕ) (after trace : List ℕ) → Within after (page ∷ cache) →
    different (missing cache (page ∷ trace)) ≤ cond (has cache page) 0 1 + different (missing after trace)
missing_step cache page after trace w = omega (arith, missing_more cache page trace, missing_within after (page ∷ cache) trace w)

pub cold_fetches : ColdFetches
unfolding missing different feasible schedule_fetches
cold_fetches h before [] schedule ok = omega arith
cold_fetches h before (page ∷ trace) [] ok = grind (arith, nat_tests)
cold_fetches h before (page ∷ trace) (after ∷ schedule) ok =
    let i = cold_fetches h after trace schedule in
    let w = only_adds_within after page before in
    let s = missing_step before page after trace in
    grind (arith, nat_tests)

pub lru_within : (k : ℕ) (cache : List ℕ) (page : ℕ) → Within (lru k cache page) (page ∷ cache)
unfolding lru
lru_within k cache page x h = cc (has_from_take k (page ∷ without page cache) x h, has_front page cache x)

pub compulsory_from : (k : ℕ) (cache trace : List ℕ) → different (missing cache trace) ≤ lru_fetches k cache trace
unfolding missing different lru_fetches
compulsory_from k cache [] = omega arith
compulsory_from k cache (page ∷ trace) =
    let i = compulsory_from k (lru k cache page) trace in
    let s = missing_step cache page (lru k cache page) trace (lru_within k cache page) in
    grind (arith, nat_tests)

pub compulsory : Compulsory
compulsory k trace = rw missing_none at (compulsory_from k [] trace)
