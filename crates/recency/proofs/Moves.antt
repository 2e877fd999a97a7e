-- The row when a slot is taken out of the ring, and when one is put in front.
use Rattle.std.proofs.Common.{◌≡◌, ℕ, ◌+◌, ◌*◌, ◌<◌, ◌≤◌, true, false, ◌≢◌, List, ◌∷◌, ◌++◌, length, get_or, set, sym, refl, ◌∙◌, inl, inr, arith}
use Rattle.std.proofs.lemmas.Bool.Decides.{nat_tests}
use Rattle.std.proofs.lemmas.List.{get_or-set_same, get_or-set_other, length-set}
use Rattle.paging.specs.Lists.{has, distinct}
use Rattle.paging.proofs.Appends.{has_cut, has_first, has_later, has_tail, has_apart, distinct_cut}
use Rattle.recency.specs.Row.{next, prev, unlinked, pushed}
use Rattle.recency.specs.Sound.{Linked}
use Rattle.recency.proofs.Frames.{Apart, apart_trans, apart_set, Ring, relinked_door}
use Rattle.recency.proofs.Links.{chain_unlink, chain_push, chain_next, chain_prev}

-- what stands in order lies within n, and so does slot 0
pub linked_end : (n : ℕ) (row order : List ℕ) → Linked n row order → (s : ℕ) → has (0 ∷ order) s ≡ true → s ≤ n
unfolding has
linked_end n row order linked s there = let w = linked.within s in grind (arith, nat_tests)

pub linked_next : (n : ℕ) (row order : List ℕ) → Linked n row order → (s : ℕ) → has (0 ∷ order) s ≡ true → next row s ≤ n
linked_next n row order linked s there =
    linked_end n row order linked (next row s) (chain_next (next row) (prev row) order 0 0 s linked.chain there)

pub linked_prev : (n : ℕ) (row order : List ℕ) → Linked n row order → (s : ℕ) → has (0 ∷ order) s ≡ true → prev row s ≤ n
linked_prev n row order linked s there =
    linked_end n row order linked (prev row s) (chain_prev (next row) (prev row) order 0 0 s linked.chain there)

module _ (k : ℕ) where
  set_next : (row : List ℕ) (t v : ℕ) → t ≤ k → Apart k (Ring k) row (set row (5 * t) v)
  set_next row t v le = apart_set k (Ring k) row (5 * t) v (inl (record { slot = t; above = omega arith; inside = le; is = omega arith })) (omega arith)

  set_prev : (row : List ℕ) (t v : ℕ) → t ≤ k → Apart k (Ring k) row (set row (5 * t + 1) v)
  set_prev row t v le = apart_set k (Ring k) row (5 * t + 1) v (inr (record { slot = t; above = omega arith; inside = le; is = refl })) (omega arith)

module _ (k : ℕ) (row : List ℕ) (long : 9 * k + 5 ≤ length row) (s : ℕ) (inside : s ≤ k) where
  module _ (after : next row s ≤ k) (before : prev row s ≤ k) where
    next_unlinked : next (unlinked row s) (prev row s) ≡ next row s
    next_unlinked = grind (arith, get_or-set_same, get_or-set_other, length-set)

    next_unlinked_else : (i : ℕ) → i ≢ prev row s → next (unlinked row s) i ≡ next row i
    next_unlinked_else i ne = grind (arith, get_or-set_same, get_or-set_other, length-set)

    prev_unlinked : prev (unlinked row s) (next row s) ≡ prev row s
    prev_unlinked = grind (arith, get_or-set_same, get_or-set_other, length-set)

    prev_unlinked_else : (i : ℕ) → i ≢ next row s → prev (unlinked row s) i ≡ prev row i
    prev_unlinked_else i ne = grind (arith, get_or-set_same, get_or-set_other, length-set)

    pub unlinked_apart : Apart k (Ring k) row (unlinked row s)
    unlinked_apart =
        apart_trans k (Ring k) row (set row (5 * prev row s) (next row s)) (unlinked row s) (set_next k row (prev row s) (next row s) before)
        (set_prev k (set row (5 * prev row s) (next row s)) (next row s) (prev row s) after)

  pub pushed_apart : next row 0 ≤ k → Apart k (Ring k) row (pushed row s)
  pushed_apart head =
      let a = set row (5 * s) (next row 0) in
      let b = set a (5 * s + 1) 0 in
      let c = set b (5 * next row 0 + 1) s in
      apart_trans k (Ring k) row a (pushed row s) (set_next k row s (next row 0) inside)
      (apart_trans k (Ring k) a b (pushed row s) (set_prev k a s 0 inside)
      (apart_trans k (Ring k) b c (pushed row s) (set_prev k b (next row 0) s head) (set_next k c 0 s (omega arith))))

  module _ (head : next row 0 ≤ k) (some : s ≢ 0) (new : next row 0 ≢ s) where
    next_pushed_0 : next (pushed row s) 0 ≡ s
    next_pushed_0 = grind (arith, get_or-set_same, get_or-set_other, length-set)

    next_pushed : next (pushed row s) s ≡ next row 0
    next_pushed = grind (arith, get_or-set_same, get_or-set_other, length-set)

    next_pushed_else : (i : ℕ) → i ≢ 0 → i ≢ s → next (pushed row s) i ≡ next row i
    next_pushed_else i n0 ns = grind (arith, get_or-set_same, get_or-set_other, length-set)

    prev_pushed : prev (pushed row s) s ≡ 0
    prev_pushed = grind (arith, get_or-set_same, get_or-set_other, length-set)

    prev_pushed_head : prev (pushed row s) (next row 0) ≡ s
    prev_pushed_head = grind (arith, get_or-set_same, get_or-set_other, length-set)

    prev_pushed_else : (i : ℕ) → i ≢ s → i ≢ next row 0 → prev (pushed row s) i ≡ prev row i
    prev_pushed_else i ns nh = grind (arith, get_or-set_same, get_or-set_other, length-set)

-- a page's coming into a slot, which is put in front, leaves where the chains begin
put_door :
    (k : ℕ) (row : List ℕ) (s page i : ℕ) → 9 * k + 5 ≤ length row → s ≤ k → next row 0 ≤ k → 5 * k + 5 ≤ i →
    get_or (pushed (set row (5 * s + 2) page) s) i 0 ≡ get_or row i 0
put_door k row s page i long inside head door =
    let written = set row (5 * s + 2) page in
    let first = get_or-set_other row (5 * s + 2) 0 page 0 (λ e. omega arith) in
    let l = length-set row (5 * s + 2) page in
    relinked_door k written (pushed written s) (pushed_apart k written (omega arith) s inside (omega arith)) i door
    ∙ get_or-set_other row (5 * s + 2) i page 0 (λ e. omega arith)

pub put_first :
    (k : ℕ) (row : List ℕ) (s page i : ℕ) → 9 * k + 5 ≤ length row → s ≤ k → next row 0 ≤ k → 5 * k + 5 ≤ i → get_or row i 0 ≤ k →
    5 * get_or (pushed (set row (5 * s + 2) page) s) i 0 + 4 < length (pushed (set row (5 * s + 2) page) s)
put_first k row s page i long inside head door few =
    let written = set row (5 * s + 2) page in
    let first = get_or-set_other row (5 * s + 2) 0 page 0 (λ e. omega arith) in
    let l = length-set row (5 * s + 2) page in
    let l' = (pushed_apart k written (omega arith) s inside (omega arith)).len in
    omega (arith, put_door k row s page i long inside head door)

pushed_once : (z : ℕ) (xs : List ℕ) (s : ℕ) → has (z ∷ xs) s ≡ false → distinct (z ∷ xs) ≡ true → distinct (z ∷ s ∷ xs) ≡ true
unfolding has distinct
pushed_once z xs s absent once = grind (arith, nat_tests)

pushed_within : (n : ℕ) (xs : List ℕ) (s : ℕ) → s ≤ n → ((t : ℕ) → has xs t ≡ true → t ≤ n) → (t : ℕ) → has (s ∷ xs) t ≡ true → t ≤ n
unfolding has
pushed_within n xs s le within t there = let w = within t in grind (arith, nat_tests)

module _ (k n : ℕ) (row : List ℕ) (long : 9 * k + 5 ≤ length row) (few : n ≤ k) where
  -- slot s is taken out of the ring
  pub linked_unlinked : (xs : List ℕ) (s : ℕ) (ys : List ℕ) → Linked n row (xs ++ s ∷ ys) → Linked n (unlinked row s) (xs ++ ys)
  linked_unlinked xs s ys linked =
      let here : has (xs ++ s ∷ ys) s ≡ true = has_cut xs s ys s ∙ has_first s (xs ++ ys) in
      let there : has (0 ∷ xs ++ s ∷ ys) s ≡ true = has_later 0 (xs ++ s ∷ ys) s here in
      let sn = linked.within s here in
      let inside : s ≤ k = omega arith in
      let na = linked_next n row (xs ++ s ∷ ys) linked s there in
      let nb = linked_prev n row (xs ++ s ∷ ys) linked s there in
      let after : next row s ≤ k = omega arith in
      let before : prev row s ≤ k = omega arith in
      record {
        chain = chain_unlink (next row) (prev row) (next (unlinked row s)) (prev (unlinked row s)) xs s ys
            (next_unlinked k row long s inside after before) (next_unlinked_else k row long s inside after before)
            (prev_unlinked k row long s inside after before) (prev_unlinked_else k row long s inside after before)
            linked.once linked.chain;
        once = (distinct_cut s ys (0 ∷ xs) linked.once).0;
        within = λ t h. linked.within t (has_cut xs s ys t ∙ has_later s (xs ++ ys) t h);
      }

  -- slot s, which is not in the ring, is put in front
  pub linked_pushed : (xs : List ℕ) (s : ℕ) → Linked n row xs → has (0 ∷ xs) s ≡ false → s ≤ n → Linked n (pushed row s) (s ∷ xs)
  linked_pushed xs s linked absent le =
      let inside : s ≤ k = omega arith in
      let h = linked_next n row xs linked 0 (has_first 0 xs) in
      let head : next row 0 ≤ k = omega arith in
      let tail = has_tail 0 xs s absent in
      let some : s ≢ 0 = λ e. tail.0 (sym e) in
      let new : next row 0 ≢ s =
      has_apart (0 ∷ xs) (next row 0) s (chain_next (next row) (prev row) xs 0 0 0 linked.chain (has_first 0 xs)) absent in
      record {
        chain = chain_push (next row) (prev row) (next (pushed row s)) (prev (pushed row s)) xs s
            (next_pushed_0 k row long s inside head some new) (next_pushed k row long s inside head some new)
            (next_pushed_else k row long s inside head some new) (prev_pushed k row long s inside head some new)
            (prev_pushed_head k row long s inside head some new) (prev_pushed_else k row long s inside head some new)
            some tail.1 linked.once linked.chain;
        once = pushed_once 0 xs s absent linked.once;
        within = pushed_within n xs s le linked.within;
      }
