-- The schedule's caches are what is read at the ends of rounds.
use Rattle.std.proofs.Common.{◌≡◌, ℕ, zero, suc, ◌+◌, ◌-◌, ◌*◌, ◌<◌, ◌≤◌, cond, ltb, List, [], ◌∷◌, ◌++◌, length, get_or, replicate, sym, refl, ap, ◌∙◌, ⊎_elim, append_assoc, append-nil, arith}
use Rattle.std.proofs.lemmas.List.{get_or_append_left, get_or-append_right, get_or-replicate, length-append, length-replicate}
use Rattle.std.proofs.lemmas.Bool.{cases_lt, lt-ltb, le-ltb}
use Rattle.std.proofs.lemmas.Bool.Decides.{nat_tests}
use Rattle.paging.specs.Adversary.{fresh, Round, opened, new_pages, last_new, next_list, next_round, rounds, held, served, schedule_from, beside}
use Rattle.paging.specs.Policies.{Policy}
use Rattle.paging.specs.Stepwise.{Play, Position, begins}
use Rattle.paging.proofs.Fresh.{length_fresh}
use Rattle.paging.proofs.Played.{plays_exactly}
use Rattle.adversary.specs.declared.challenge.Challenge.{Challenge}
use Rattle.adversary.specs.Beside.{new_at, cache_in}
use Rattle.runs.specs.Schedule.{ReadsSchedule}
use Rattle.adversary.specs.Places.{listed_in}
use Rattle.runs.specs.Runs.{Against}

-- the caches after the new pages, by place
length_served : (pages news : List ℕ) → length (served pages news) ≡ length news
unfolding served
length_served pages [] = refl
length_served pages (n ∷ news) = ap suc (length_served pages news)

served_at : (pages : List ℕ) (c n i : ℕ) → i < c → get_or (served pages (fresh c n)) i [] ≡ held pages (n + i)
unfolding served fresh
served_at pages zero n i lt = absurd (omega arith)
served_at pages (suc c) n zero lt = let e : n + 0 ≡ n = omega arith in rw e
served_at pages (suc c) n (suc i) lt = let e : n + suc i ≡ suc n + i = omega arith in rw e (served_at pages c (suc n) i (omega arith))

module _ (k h : ℕ) (policy : Policy) where
  -- the caches of one round
  abbrev part : Round → List (List ℕ)
  part r = served (next_list k h policy r) (new_pages k h r) ++ replicate (h - 1) (held (next_list k h policy r) (last_new k h r))

  schedule_more : (m : ℕ) (r : Round) → schedule_from k h policy (suc m) r ≡ schedule_from k h policy m r ++ part (rounds k h policy m r)
  unfolding schedule_from rounds
  schedule_more zero r = ap (λ (xs : List (List ℕ)). served (next_list k h policy r) (new_pages k h r) ++ xs) (append-nil _)
  schedule_more (suc m) r =
      let i = schedule_more m (next_round k h policy r) in
      let a = served (next_list k h policy r) (new_pages k h r) in
      let b = replicate (h - 1) (held (next_list k h policy r) (last_new k h r)) in
      let s = schedule_from k h policy m (next_round k h policy r) in
      let p = part (rounds k h policy m (next_round k h policy r)) in
      ap (λ (xs : List (List ℕ)). a ++ (b ++ xs)) i ∙ ap (λ (xs : List (List ℕ)). a ++ xs) (sym (append_assoc b s p)) ∙ sym (append_assoc a (b ++ s) p)

  module _ (low : 0 < h) (le : h ≤ k) where
    length_part : (r : Round) → length (part r) ≡ k
    unfolding new_pages
    length_part r =
        let a = length-append (served (next_list k h policy r) (new_pages k h r)) (replicate (h - 1) (held (next_list k h policy r) (last_new k h r))) in
        let b = length_served (next_list k h policy r) (new_pages k h r) in
        let c = length_fresh (suc (k - h)) r.next in
        let d = length-replicate (h - 1) (held (next_list k h policy r) (last_new k h r)) in
        omega arith

    length_schedule : (m : ℕ) (r : Round) → length (schedule_from k h policy m r) ≡ m * k
    unfolding schedule_from
    length_schedule zero r = omega arith
    length_schedule (suc m) r =
        let i = length_schedule m (next_round k h policy r) in
        let p = length_part r in
        let a = served (next_list k h policy r) (new_pages k h r) in
        let b = replicate (h - 1) (held (next_list k h policy r) (last_new k h r)) in
        let s = schedule_from k h policy m (next_round k h policy r) in
        let x = length-append a (b ++ s) in
        let y = length-append b s in
        let z = length-append a b in
        omega arith

    module _ (r : Round) (i : ℕ) where
      abbrev list : List ℕ
      list = next_list k h policy r

      abbrev stays : List (List ℕ)
      stays = replicate (h - 1) (held list (last_new k h r))

      part_new : i < suc (k - h) → get_or (part r) i [] ≡ held list (r.next + cond (ltb i (suc (k - h))) i (k - h))
      unfolding new_pages
      part_new e =
          let b = length_served list (new_pages k h r) in
          let c = length_fresh (suc (k - h)) r.next in
          let t = lt-ltb i (suc (k - h)) e in
          get_or_append_left (served list (new_pages k h r)) stays [] i (omega arith) ∙ served_at list (suc (k - h)) r.next i e ∙ rw t

      part_stays : i < k → suc (k - h) ≤ i → get_or (part r) i [] ≡ held list (r.next + cond (ltb i (suc (k - h))) i (k - h))
      unfolding new_pages last_new
      part_stays lt e =
          let b = length_served list (new_pages k h r) in
          let c = length_fresh (suc (k - h)) r.next in
          let t = le-ltb i (suc (k - h)) e in
          get_or-append_right (served list (new_pages k h r)) stays (suc (k - h)) i [] (omega arith) e
          ∙ get_or-replicate (h - 1) (i - suc (k - h)) (held list (last_new k h r)) [] (omega arith) ∙ rw t

      part_at : i < k → get_or (part r) i [] ≡ held list (r.next + cond (ltb i (suc (k - h))) i (k - h))
      part_at lt = ⊎_elim part_new (part_stays lt) (cases_lt i (suc (k - h)))

    -- the caches of the last round of several
    beside_at :
        (m i : ℕ) → i < k →
        get_or (beside k h policy (suc m)) (h + m * k + i) []
        ≡ held (next_list k h policy (rounds k h policy m (opened h))) ((rounds k h policy m (opened h)).next + cond (ltb i (suc (k - h))) i (k - h))
    unfolding beside
    beside_at m i lt =
        let r = rounds k h policy m (opened h) in
        let o = served (fresh h 1) (fresh h 1) in
        let s = schedule_from k h policy m (opened h) in
        let a = length_served (fresh h 1) (fresh h 1) in
        let b = length_fresh h 1 in
        let c = length_schedule m (opened h) in
        let e : h + m * k + i - h - m * k ≡ i = omega arith in
        ap (λ (xs : List (List ℕ)). get_or (o ++ xs) (h + m * k + i) []) (schedule_more m (opened h))
        ∙ get_or-append_right o (s ++ part r) h (h + m * k + i) [] (omega arith) (omega arith)
        ∙ get_or-append_right s (part r) (m * k) (h + m * k + i - h) [] c (omega arith)
        ∙ ap (λ (n : ℕ). get_or (part r) n []) e
        ∙ part_at r i lt

    beside_opening : (i : ℕ) → i < h → get_or (beside k h policy 0) i [] ≡ held (fresh h 1) (1 + i)
    unfolding beside schedule_from
    beside_opening i lt =
        let a = length_served (fresh h 1) (fresh h 1) in
        let b = length_fresh h 1 in
        get_or_append_left (served (fresh h 1) (fresh h 1)) [] [] i (omega arith) ∙ served_at (fresh h 1) h 1 i lt

-- the challenge at the ends of rounds
rounds_more : (k h : ℕ) (policy : Policy) (m : ℕ) (r : Round) → rounds k h policy (suc m) r ≡ next_round k h policy (rounds k h policy m r)
unfolding rounds
rounds_more k h policy zero r = refl
rounds_more k h policy (suc m) r = rounds_more k h policy m (next_round k h policy r)

module _ (k h : ℕ) (policy : Policy) (c : Challenge) (row : List ℕ) (low : 0 < h) (le : h ≤ k) where
  opening_read : Against k h policy h c row → (c.next ≡ suc h) × (listed_in c row ≡ fresh h 1)
  unfolding begins opened rounds
  opening_read a =
      let e = (plays_exactly k h 0 policy low le).0 in
      let z : h + 0 * k ≡ h = omega arith in
      let at = a.position ∙ ap (λ (x : Play). x.position) (rw z at e) in
      (ap (λ (p : Position). p.next) at, ap (λ (p : Position). p.pages) at)

  round_read :
      (m : ℕ) → Against k h policy (h + suc m * k) c row →
      (c.next ≡ suc ((rounds k h policy m (opened h)).next + (k - h))) × (listed_in c row ≡ next_list k h policy (rounds k h policy m (opened h)))
  unfolding begins next_round last_new
  round_read m a =
      let e = (plays_exactly k h (suc m) policy low le).0 in
      let at = a.position ∙ ap (λ (x : Play). x.position) (e ∙ ap begins (rounds_more k h policy m (opened h))) in
      (ap (λ (p : Position). p.next) at, ap (λ (p : Position). p.pages) at)

  new_opening : (i : ℕ) → c.k ≡ k → c.h ≡ h → c.next ≡ suc h → i < h → new_at c i ≡ 1 + i
  new_opening i k_is h_is next lt = grind (arith, nat_tests)

  new_round :
      (i n : ℕ) → c.k ≡ k → c.h ≡ h → h < n → c.next ≡ suc (n + (k - h)) → new_at c i ≡ n + cond (ltb i (suc (k - h))) i (k - h)
  new_round i n k_is h_is more next = grind (arith, nat_tests)

pub reads_schedule : ReadsSchedule
reads_schedule k h m policy c row i low le = (opening, round)
  where
    opening : Against k h policy h c row → i < h → cache_in c row i ≡ get_or (beside k h policy 0) i []
    opening a lt =
        let r = opening_read k h policy c row low le a in
        ap (held (listed_in c row)) (new_opening k h policy c row low le i a.k_is a.h_is r.0 lt)
        ∙ ap (λ (xs : List ℕ). held xs (1 + i)) r.1 ∙ sym (beside_opening k h policy low le i lt)

    round : Against k h policy (h + suc m * k) c row → i < k → cache_in c row i ≡ get_or (beside k h policy (suc m)) (h + m * k + i) []
    round a lt =
        let r = round_read k h policy c row low le m a in
        let x = rounds k h policy m (opened h) in
        let n = (plays_exactly k h m policy low le).2 in
        ap (held (listed_in c row)) (new_round k h policy c row low le i x.next a.k_is a.h_is (omega arith) r.0)
        ∙ ap (λ (xs : List ℕ). held xs (x.next + cond (ltb i (suc (k - h))) i (k - h))) r.1 ∙ sym (beside_at k h policy low le m i lt)
