-- The place of a page in the stack of the pages requested last: it tells for every capacity whether LRU fetches the page, and it is the number
-- of different pages requested since.
use Rattle.std.proofs.Common.{◌≡◌, ℕ, zero, suc, ◌+◌, ◌≤◌, true, false, cond, List, [], ◌∷◌, ◌++◌, length, take, drop, refl, ap, add-one, arith}
use Rattle.std.proofs.lemmas.List.{take_all, take-take}
use Rattle.std.proofs.lemmas.Bool.Decides.{nat_tests}
use Rattle.paging.specs.Claims.{StackDistance}
use Rattle.paging.specs.Distance.{found, stack_hits}
use Rattle.paging.specs.Lists.{has, without, place}
use Rattle.paging.specs.Lru.{lru, lru_fetches}
use Rattle.paging.specs.Stretches.{last_requested, different, missing}
use Rattle.paging.proofs.Lists.{take_none, without_absent, length_without, has_from_take}
use Rattle.paging.proofs.Places.{place_first}
use Rattle.paging.proofs.Recency.{lru_take, recency}
use Rattle.paging.proofs.Room.{retained}
use Rattle.paging.proofs.Stretches.{missing_none, missing_within, missing_more}
use Rattle.paging.proofs.Tallies.{Steps}

pub has_take : (c page : ℕ) (row : List ℕ) → has (take c row) page ≡ found c page row
unfolding has place found
has_take zero page row = grind (arith, nat_tests)
has_take (suc c) page [] = refl
has_take (suc c) page (x ∷ xs) = let i = has_take c page xs in grind (arith, nat_tests)

without_place : (x : ℕ) (xs : List ℕ) → has xs x ≡ true → without x xs ≡ take (place x xs) xs ++ drop (suc (place x xs)) xs
unfolding has without place
without_place x [] there = grind (arith, nat_tests)
without_place x (y ∷ ys) there = let i = without_place x ys in grind (arith, nat_tests)

-- one request, at every capacity up to the m places that the stack is cut to
pub stack_steps : (m : ℕ) (stack : List ℕ) (page : ℕ) (rest : List ℕ) → Steps lru_fetches m stack page rest (lru m stack page)
unfolding lru lru_fetches
stack_steps m stack page rest c _ le =
    let a = has_take c page stack in
    let b = lru_take c page stack in
    let e = take-take c m (page ∷ without page stack) le in
    rw (a, b, e) (grind (arith, nat_tests))

-- the stack after a request, for a loop that knows the place of the page
pub lru_found :
    (m : ℕ) (stack : List ℕ) (page : ℕ) → length stack ≤ m → has stack page ≡ true →
    lru m stack page ≡ page ∷ take (place page stack) stack ++ drop (place page stack + 1) stack
unfolding lru
lru_found m stack page le there =
    let l = length_without page stack in
    let a = take_all m (page ∷ without page stack) (grind (arith, nat_tests)) in
    rw (a, add-one) (ap (λ xs. page ∷ xs) (without_place page stack there))

pub lru_absent : (m : ℕ) (stack : List ℕ) (page : ℕ) → has stack page ≡ false → lru m stack page ≡ take m (page ∷ stack)
unfolding lru
lru_absent m stack page absent = rw (without_absent page stack absent) refl

pub fetches_le : (k : ℕ) (cache trace : List ℕ) → lru_fetches k cache trace ≤ length trace
unfolding lru_fetches
fetches_le k cache [] = omega arith
fetches_le k cache (page ∷ trace) = let i = fetches_le k (lru k cache page) trace in grind (arith, nat_tests)

pub fetches_from : (c : ℕ) (stack trace : List ℕ) → lru_fetches c (take c stack) trace + stack_hits c stack trace ≡ length trace
unfolding lru_fetches stack_hits
fetches_from c stack [] = refl
fetches_from c stack (page ∷ trace) =
    let i = fetches_from c (page ∷ without page stack) trace in
    let s = has_take c page stack in
    let b = lru_take c page stack in
    rw (s, b) (grind (arith, nat_tests))

-- how many different pages were requested since

-- the pages before page in a stack, and how another page taken out changes them
place_without :
    (page x : ℕ) (xs : List ℕ) → (x ≡ page → ⊥) →
    place page (without x xs) + cond (has (take (place page xs) xs) x) 1 0 ≡ place page xs
unfolding has without place
place_without page x [] n = refl
place_without page x (y ∷ ys) n = let i = place_without page x ys n in grind (arith, nat_tests)

place_front :
    (page x : ℕ) (xs : List ℕ) → (x ≡ page → ⊥) →
    place page (x ∷ without x xs) ≡ place page xs + cond (has (take (place page xs) xs) x) 0 1
unfolding place
place_front page x xs n = let i = place_without page x xs n in grind (arith, nat_tests)

before_without :
    (page x : ℕ) (xs : List ℕ) (z : ℕ) → (x ≡ page → ⊥) → (x ≡ z → ⊥) →
    has (take (place page (without x xs)) (without x xs)) z ≡ has (take (place page xs) xs) z
unfolding has without place
before_without page x [] z n a = refl
before_without page x (y ∷ ys) z n a = let i = before_without page x ys z n a in grind (arith, nat_tests)

before_front :
    (page x : ℕ) (xs : List ℕ) (z : ℕ) → (x ≡ page → ⊥) →
    has (take (place page (x ∷ without x xs)) (x ∷ without x xs)) z ≡ has (x ∷ take (place page xs) xs) z
unfolding has place
before_front page x xs z n = let i = before_without page x xs z n in grind (arith, nat_tests)

-- requests for other pages: each that did not stand before page already comes before it
place_after :
    (page : ℕ) (stack between : List ℕ) → has between page ≡ false →
    place page (last_requested between stack) ≡ place page stack + different (missing (take (place page stack) stack) between)
unfolding has last_requested different missing
place_after page stack [] absent = omega arith
place_after page stack (x ∷ between) absent =
    let apart : x ≡ page → ⊥ = λ e. grind (arith, nat_tests) in
    let old = take (place page stack) stack in
    let new = take (place page (x ∷ without x stack)) (x ∷ without x stack) in
    let more = missing_more old x between in
    let same = λ (z : ℕ). before_front page x stack z apart in
    let up = missing_within (x ∷ old) new between (λ z h. cc (same z)) in
    let down = missing_within new (x ∷ old) between (λ z h. cc (same z)) in
    let i = place_after page (x ∷ without x stack) between in
    let moved = place_front page x stack apart in
    grind (arith, nat_tests)

requested_append : (before trace seen : List ℕ) → last_requested (before ++ trace) seen ≡ last_requested trace (last_requested before seen)
unfolding last_requested
requested_append [] trace seen = refl
requested_append (x ∷ before) trace seen = requested_append before trace (x ∷ without x seen)

requested_there : (before : List ℕ) (page : ℕ) (between : List ℕ) → has (last_requested (before ++ page ∷ between) []) page ≡ true
requested_there before page between =
    let k = suc (different between) in
    let there = retained k page before between (omega arith) in
    has_from_take k (last_requested (before ++ page ∷ between) []) page (rw (recency k (before ++ page ∷ between)).0 at there)

since_requested :
    (before : List ℕ) (page : ℕ) (between : List ℕ) → has between page ≡ false →
    place page (last_requested (before ++ page ∷ between) []) ≡ different between
unfolding last_requested
since_requested before page between absent =
    let stack = page ∷ without page (last_requested before []) in
    let front : place page stack ≡ 0 = place_first page (without page (last_requested before [])) in
    let i = rw front at (place_after page stack between absent) in
    rw (requested_append before (page ∷ between) []) (omega (arith, rw missing_none at i))

pub stack_distance : StackDistance
stack_distance =
    record {
      hit = λ c before page. rw (recency c before).0 (has_take c page (last_requested before []));
      since = λ before page between absent. (requested_there before page between, since_requested before page between absent);
      fetches = λ c trace. rw take_none at (fetches_from c [] trace);
    }
