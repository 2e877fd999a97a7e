-- A request entered into the row, as a position.
use Rattle.std.proofs.Common.{◌≡◌, ℕ, suc, ◌+◌, ◌-◌, ◌*◌, ◌<◌, ◌≤◌, List, [], ◌∷◌, ◌++◌, length, take, drop, set, sym, ap, ◌∙◌, arith}
use Rattle.std.proofs.lemmas.List.{take_more_set, drop-set-lt, drop-drop, length-take}
use Rattle.paging.specs.Adversary.{once_each}
use Rattle.paging.specs.Stepwise.{Position, moved}
use Rattle.adversary.proofs.Moved.{moved_new, moved_new_over, moved_pick, moved_pick_over}

-- what is the same from k + 1 on is so from 2 * k + 1 on
pub rest_further : (k : ℕ) (a b : List ℕ) → drop (k + 1) a ≡ drop (k + 1) b → drop (2 * k + 1) a ≡ drop (2 * k + 1) b
rest_further k a b same =
    let e : k + 1 + k ≡ 2 * k + 1 = omega arith in
    let p = sym (drop-drop k (k + 1) a) ∙ ap (drop k) same ∙ drop-drop k (k + 1) b in
    rw e at p

abbrev pub place : ℕ → List ℕ → List ℕ → ℕ → Position
place next pages picked picks = record { next = next; pages = pages; picked = picked; picks = picks }

pub begun_list : (next : ℕ) {a b : List ℕ} → a ≡ b → place next a [] 0 ≡ place next b [] 0
begun_list next e = ap (λ (xs : List ℕ). place next xs [] 0) e

module _ (k h next listed noted picks : ℕ) (row : List ℕ) (long : 3 * k + 1 ≤ length row) where
  abbrev before : Position
  before = place next (take listed row) (take noted (drop (k + 1) row)) picks

  module _ (some : listed ≤ k) where
    abbrev with_new : List ℕ
    with_new = set row listed next

    new_front : take (listed + 1) with_new ≡ take listed row ++ next ∷ []
    new_front = take_more_set row listed next (omega arith)

    pub new_back : drop (k + 1) with_new ≡ drop (k + 1) row
    new_back = drop-set-lt (k + 1) row listed next (omega arith)

    pub entered_new :
        (listed ≡ k → suc picks < h) →
        place (next + 1) (take (listed + 1) with_new) (take noted (drop (k + 1) with_new)) picks ≡ moved k h before next
    entered_new on =
        let l = length-take listed row in
        let e : next + 1 ≡ suc next = omega arith in
        let m = moved_new k h next (take listed row) (take noted (drop (k + 1) row)) picks next (omega arith) (λ full. on (omega arith)) in
        rw (new_front, new_back, e) (sym m)

    new_front_full : listed ≡ k → take (k + 1) with_new ≡ take listed row ++ next ∷ []
    new_front_full full = let e : k + 1 ≡ listed + 1 = omega arith in rw e new_front

    pub entered_new_over :
        (q : Position) → listed ≡ k → h ≤ suc picks →
        q ≡ place (next + 1) (take h (once_each (take noted (drop (k + 1) with_new)) ((next + 1 - 1) ∷ take (k + 1) with_new))) [] 0 →
        q ≡ moved k h before next
    entered_new_over q full end is =
        let l = length-take listed row in
        let e : next + 1 ≡ suc next = omega arith in
        let m = moved_new_over k h next (take listed row) (take noted (drop (k + 1) row)) picks next (omega arith) end in
        is ∙ rw (new_back, e) (ap (λ (xs : List ℕ). place (suc next) (take h (once_each (take noted (drop (k + 1) row)) ((suc next - 1) ∷ xs))) [] 0) (new_front_full full)) ∙ sym m

  -- a pick: row' is the row with the page noted
  module _ (all : listed ≡ k + 1) (page noted' : ℕ) (row' : List ℕ)
      (after : take noted' (drop (k + 1) row') ≡ once_each (take noted (drop (k + 1) row)) (page ∷ []))
      (front : take (k + 1) row' ≡ take (k + 1) row) where
    listed_same : take listed row' ≡ take listed row
    listed_same = rw all front

    pub entered_pick :
        suc (suc picks) < h → place next (take listed row') (take noted' (drop (k + 1) row')) (picks + 1) ≡ moved k h before page
    entered_pick on =
        let l = length-take listed row in
        let e : picks + 1 ≡ suc picks = omega arith in
        let m = moved_pick k h next (take listed row) (take noted (drop (k + 1) row)) picks page (omega arith) on in
        rw (listed_same, after, e) (sym m)

    pub entered_pick_over :
        (q : Position) → h ≤ suc (suc picks) →
        q ≡ place next (take h (once_each (take noted' (drop (k + 1) row')) ((next - 1) ∷ take (k + 1) row'))) [] 0 → q ≡ moved k h before page
    entered_pick_over q end is =
        let l = length-take listed row in
        let m = moved_pick_over k h next (take listed row) (take noted (drop (k + 1) row)) picks page (omega arith) end in
        let same : take (k + 1) row' ≡ take listed row = front ∙ rw all in
        is ∙ rw (after, same) (sym m)
