-- The adversary played step by step is the construction: part by part, and then whole rounds.
use Rattle.std.proofs.Common.{◌≡◌, ℕ, zero, suc, ◌+◌, ◌-◌, ◌<◌, ◌≤◌, true, false, ◌&&◌, leb, List, [], ◌∷◌, ◌++◌, length, take, arith}
use Rattle.std.proofs.lemmas.List.{append-nil, append_assoc, length-append}
use Rattle.std.proofs.lemmas.Bool.Decides.{nat_tests}
use Rattle.paging.specs.Adversary.{fresh, first_missing, once_each, picks}
use Rattle.paging.specs.Policies.{Policy, history_after}
use Rattle.paging.specs.Stepwise.{Position, Play, complete, next_request, requested, settled, moved, step, plays}

pub plays_add : (k h : ℕ) (policy : Policy) (a b t : ℕ) (x : Play) → t ≡ a + b → plays k h policy t x ≡ plays k h policy b (plays k h policy a x)
unfolding plays
plays_add k h policy zero b t x e = let s : t ≡ b = omega arith in rw s
plays_add k h policy (suc a) b zero x e = absurd (omega arith)
plays_add k h policy (suc a) b (suc t) x e = plays_add k h policy a b t (step k h policy x) (omega arith)

-- each test of a step, either way

module _ (k : ℕ) (p : Position) where
  complete_not : length p.pages ≤ k → complete k p ≡ false
  unfolding complete
  complete_not room = grind (arith, nat_tests)

  complete_now : k < length p.pages → complete k p ≡ true
  unfolding complete
  complete_now all = grind (arith, nat_tests)

  next_new : (shown : List ℕ) → complete k p ≡ false → next_request k p shown ≡ p.next
  unfolding next_request
  next_new shown e = rw e

  next_pick : (shown : List ℕ) → complete k p ≡ true → next_request k p shown ≡ first_missing p.pages shown
  unfolding next_request
  next_pick shown e = rw e

  requested_new :
      (page : ℕ) → complete k p ≡ false →
      requested k p page ≡ record { next = suc p.next; pages = p.pages ++ page ∷ []; picked = p.picked; picks = p.picks }
  unfolding requested
  requested_new page e = rw e

  requested_pick :
      (page : ℕ) → complete k p ≡ true →
      requested k p page ≡ record { next = p.next; pages = p.pages; picked = once_each p.picked (page ∷ []); picks = suc p.picks }
  unfolding requested
  requested_pick page e = rw e

  settled_on : (h : ℕ) → (complete k p && leb h (suc p.picks)) ≡ false → settled k h p ≡ p
  unfolding settled
  settled_on h e = rw e

  settled_over :
      (h : ℕ) → (complete k p && leb h (suc p.picks)) ≡ true →
      settled k h p
      ≡ record { next = p.next; pages = take h (once_each p.picked ((p.next - 1) ∷ p.pages)); picked = []; picks = 0 }
  unfolding settled
  settled_over h e = rw e

-- a play, by its parts
abbrev pub at : ℕ → List ℕ → List ℕ → ℕ → List ℕ → Play
at next pages picked picks history = record { position = record { next = next; pages = pages; picked = picked; picks = picks }; history = history }

-- the same where a round is over
abbrev pub over : ℕ → ℕ → List ℕ → List ℕ → List ℕ → Play
over h next pages picked history = at next (take h (once_each picked ((next - 1) ∷ pages))) [] 0 history

module _ (k h : ℕ) (policy : Policy) (next : ℕ) (pages picked : List ℕ) (n : ℕ) (history : List ℕ) where
  -- a new page
  new_moved :
      length pages ≤ k →
      step k h policy (at next pages picked n history)
      ≡ record {
        position = settled k h (record { next = suc next; pages = pages ++ next ∷ []; picked = picked; picks = n });
        history = next ∷ history;
      }
  unfolding step moved
  new_moved room =
      let p : Position = record { next = next; pages = pages; picked = picked; picks = n } in
      let still = complete_not k p room in
      rw (next_new k p (policy history) still, requested_new k p next still)

  -- a pick
  pick_moved :
      k < length pages →
      step k h policy (at next pages picked n history)
      ≡ record {
        position =
            settled k h
            (record { next = next; pages = pages; picked = once_each picked (first_missing pages (policy history) ∷ []); picks = suc n });
        history = first_missing pages (policy history) ∷ history;
      }
  unfolding step moved
  pick_moved all =
      let p : Position = record { next = next; pages = pages; picked = picked; picks = n } in
      let now = complete_now k p all in
      rw (next_pick k p (policy history) now, requested_pick k p (first_missing pages (policy history)) now)

module _ (k h : ℕ) (policy : Policy) where
  step_new :
      (next : ℕ) (pages picked : List ℕ) (n : ℕ) (history : List ℕ) → length pages ≤ k → (length pages ≡ k → suc n < h) →
      step k h policy (at next pages picked n history) ≡ at (suc next) (pages ++ next ∷ []) picked n (next ∷ history)
  unfolding complete
  step_new next pages picked n history room on =
      let q : Position = record { next = suc next; pages = pages ++ next ∷ []; picked = picked; picks = n } in
      let a = length-append pages (next ∷ []) in
      let e = new_moved k h policy next pages picked n history room in
      let on-still : (complete k q && leb h (suc n)) ≡ false = grind (arith, nat_tests) in
      rw (settled_on k q h on-still) at e

  step_pick :
      (next : ℕ) (pages picked : List ℕ) (n : ℕ) (history : List ℕ) → k < length pages → suc (suc n) < h →
      step k h policy (at next pages picked n history)
      ≡ at next pages (once_each picked (first_missing pages (policy history) ∷ [])) (suc n) (first_missing pages (policy history) ∷ history)
  step_pick next pages picked n history all on =
      let page = first_missing pages (policy history) in
      let q : Position = record { next = next; pages = pages; picked = once_each picked (page ∷ []); picks = suc n } in
      let e = pick_moved k h policy next pages picked n history all in
      let on-still : (complete k q && leb h (suc (suc n))) ≡ false = grind (arith, nat_tests) in
      rw (settled_on k q h on-still) at e

  -- several new pages
  pub plays_new :
      (c next : ℕ) (pages picked : List ℕ) (n : ℕ) (history : List ℕ) → length pages + c ≤ suc k → (k < length pages + c → suc n < h) →
      plays k h policy c (at next pages picked n history)
      ≡ at (next + c) (pages ++ fresh c next) picked n (history_after history (fresh c next))
  unfolding plays fresh history_after
  plays_new zero next pages picked n history room on = let none : next + 0 ≡ next = omega arith in rw (none, append-nil)
  plays_new (suc c) next pages picked n history room on =
      let a = length-append pages (next ∷ []) in
      let i = plays_new c (suc next) (pages ++ next ∷ []) picked n (next ∷ history) (omega arith) (λ lt. on (omega arith)) in
      let e = step_new next pages picked n history (omega arith) (λ same. on (omega arith)) in
      let more : suc next + c ≡ next + suc c = omega arith in
      rw e (rw (more, append_assoc) at i)

  -- the last request of a round
  over_new :
      (next : ℕ) (pages picked : List ℕ) (n : ℕ) (history : List ℕ) → length pages ≡ k → h ≤ suc n →
      step k h policy (at next pages picked n history) ≡ over h (suc next) (pages ++ next ∷ []) picked (next ∷ history)
  unfolding complete
  over_new next pages picked n history full end =
      let q : Position = record { next = suc next; pages = pages ++ next ∷ []; picked = picked; picks = n } in
      let a = length-append pages (next ∷ []) in
      let e = new_moved k h policy next pages picked n history (omega arith) in
      let now : (complete k q && leb h (suc n)) ≡ true = grind (arith, nat_tests) in
      rw (settled_over k q h now) at e

  over_pick :
      (next : ℕ) (pages picked : List ℕ) (n : ℕ) (history : List ℕ) → k < length pages → h ≤ suc (suc n) →
      step k h policy (at next pages picked n history)
      ≡ over h next pages (once_each picked (first_missing pages (policy history) ∷ [])) (first_missing pages (policy history) ∷ history)
  unfolding complete
  over_pick next pages picked n history all end =
      let page = first_missing pages (policy history) in
      let q : Position = record { next = next; pages = pages; picked = once_each picked (page ∷ []); picks = suc n } in
      let e = pick_moved k h policy next pages picked n history all in
      let now : (complete k q && leb h (suc (suc n))) ≡ true = grind (arith, nat_tests) in
      rw (settled_over k q h now) at e

  -- several of them, with the last of the round
  pub plays_new_over :
      (c next : ℕ) (pages picked : List ℕ) (n : ℕ) (history : List ℕ) → length pages + c ≡ k → h ≤ suc n →
      plays k h policy (suc c) (at next pages picked n history)
      ≡ over h (suc (next + c)) (pages ++ fresh (suc c) next) picked (history_after history (fresh (suc c) next))
  unfolding plays fresh history_after
  plays_new_over zero next pages picked n history room end =
      let none : next + 0 ≡ next = omega arith in
      rw (none, over_new next pages picked n history (omega arith) end)
  plays_new_over (suc c) next pages picked n history room end =
      let a = length-append pages (next ∷ []) in
      let i = plays_new_over c (suc next) (pages ++ next ∷ []) picked n (next ∷ history) (omega arith) end in
      let e = step_new next pages picked n history (omega arith) (λ same. omega arith) in
      let more : suc next + c ≡ next + suc c = omega arith in
      rw e (rw (more, append_assoc) at i)

  pub plays_picks :
      (c next : ℕ) (pages picked : List ℕ) (n : ℕ) (history : List ℕ) → k < length pages → suc (suc n) + c ≡ h →
      plays k h policy (suc c) (at next pages picked n history)
      ≡ over h next pages (once_each picked (picks policy pages history (suc c))) (history_after history (picks policy pages history (suc c)))
  unfolding plays picks history_after once_each
  plays_picks zero next pages picked n history all end = over_pick next pages picked n history all (omega arith)
  plays_picks (suc c) next pages picked n history all end =
      let page = first_missing pages (policy history) in
      let i = plays_picks c next pages (once_each picked (page ∷ [])) (suc n) (page ∷ history) all (omega arith) in
      let e = step_pick next pages picked n history all (omega arith) in
      rw e i
