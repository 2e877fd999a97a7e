-- An LRU cache with room for all that a stretch requests evicts nothing: each page is fetched once at most, and stays.
--     Room k cache trace     the pages of cache and the different ones of trace that it lacks are at most k together
use Rattle.std.proofs.Common.{◌≡◌, ℕ, zero, suc, ◌+◌, ◌≤◌, cond, List, [], ◌∷◌, length, refl, arith}
use Rattle.std.proofs.lemmas.List.{take_all}
use Rattle.std.proofs.lemmas.Bool.Decides.{nat_tests}
use Rattle.paging.specs.Claims.{FewPages, Retained}
use Rattle.paging.specs.Lists.{has, without}
use Rattle.paging.specs.Lru.{lru, lru_after, lru_fetches}
use Rattle.paging.specs.Stretches.{different, missing}
use Rattle.paging.proofs.Fronts.{begins, begins_within, begins_after, after_append, split}
use Rattle.paging.proofs.Lists.{Within, has_front, length_without}
use Rattle.paging.proofs.Stretches.{missing_none, missing_within, missing_more}

abbrev pub Room : ℕ → List ℕ → List ℕ → Type 0
Room k cache trace = length cache + different (missing cache trace) ≤ k

module _ (k : ℕ) (cache : List ℕ) (page : ℕ) (trace : List ℕ) (room : Room k cache (page ∷ trace)) where
  lru_room : lru k cache page ≡ page ∷ without page cache
  unfolding lru
  lru_room =
      let i = length_without page cache in
      let j = missing_more cache page trace in
      take_all k (page ∷ without page cache) (grind (arith, nat_tests))

  room_within : Within (page ∷ cache) (lru k cache page)
  room_within x h = rw lru_room (cc (has_front page cache x))

  room_missing : cond (has cache page) 0 1 + different (missing (lru k cache page) trace) ≤ different (missing cache (page ∷ trace))
  room_missing = omega (arith, missing_more cache page trace, missing_within (page ∷ cache) (lru k cache page) trace room_within)

  room_kept : Room k (lru k cache page) trace
  room_kept =
      let i = length_without page cache in
      let e : length (lru k cache page) ≡ suc (length (without page cache)) = rw lru_room refl in
      let m = room_missing in
      grind (arith, nat_tests)

pub few_pages_from : (k : ℕ) (cache trace : List ℕ) → Room k cache trace → lru_fetches k cache trace ≤ different (missing cache trace)
unfolding lru_fetches
few_pages_from k cache [] room = omega arith
few_pages_from k cache (page ∷ trace) room =
    let i = few_pages_from k (lru k cache page) trace (room_kept k cache page trace room) in
    let m = room_missing k cache page trace room in
    grind (arith, nat_tests)

pub retained_from : (k : ℕ) (cache trace : List ℕ) → Room k cache trace → Within cache (lru_after k cache trace)
unfolding lru_after has
retained_from k cache [] room x h = h
retained_from k cache (page ∷ trace) room x h =
    let w = room_within k cache page trace room x in
    retained_from k (lru k cache page) trace (room_kept k cache page trace room) x (grind (arith, nat_tests))

pub few_pages : FewPages
few_pages k before stretch le =
    let warm = (split k before stretch).1 in
    let i = few_pages_from k [] stretch in
    let e = missing_none stretch in
    grind (arith, nat_tests)

pub retained : Retained
unfolding begins has lru lru_after
retained zero page before between lt = grind (arith, nat_tests)
retained (suc k) page before between lt =
    let alone : List ℕ = page ∷ [] in
    let start = lru (suc k) (lru_after (suc k) [] before) page in
    let less = missing_within [] alone between (λ x h. grind (arith, nat_tests)) in
    let room : Room (suc k) alone between = omega (arith, rw missing_none at less) in
    let stays = retained_from (suc k) alone between room page (grind (arith, nat_tests)) in
    let front = begins_after (suc k) (suc k) (omega arith) alone start between (grind (arith, nat_tests)) in
    rw after_append (begins_within (lru_after (suc k) alone between) (lru_after (suc k) start between) front page stays)
