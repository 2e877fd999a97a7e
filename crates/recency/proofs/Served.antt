-- The row after a request: what makes it sound again, and what it then holds.
use Rattle.std.proofs.Common.{◌≡◌, ℕ, suc, ◌+◌, ◌*◌, ◌<◌, ◌≤◌, true, false, List, ◌∷◌, map, length, get_or, drop, set, ap, ◌∙◌, arith}
use Rattle.std.proofs.lemmas.List.{get_or-set_same, get_or-set_other, length-set, drop-set-lt}
use Rattle.paging.specs.Lists.{has, distinct}
use Rattle.paging.specs.Lru.{lru}
use Rattle.paging.proofs.Appends.{has_first, has_apart, has_tail, distinct_cons}
use Rattle.paging.proofs.Requests.{lru_distinct}
use Rattle.recency.specs.Hash.{home, spread}
use Rattle.recency.specs.Row.{count, next, prev, held, home_of, door, pages, pushed, entered, admitted}
use Rattle.recency.specs.Sound.{Linked, Finds, Sized, Sound}
use Rattle.recency.proofs.Chained.{finds_same, door_near}
use Rattle.recency.proofs.Entered.{finds_entered, in_apart}
use Rattle.recency.proofs.Frames.{Apart, Ring, Chains, relinked_held, relinked_behind, relinked_lead, relinked_door, relinked_count, relinked_sized, rechained_next, rechained_prev, rechained_held, rechained_count, rechained_sized}
use Rattle.recency.proofs.Led.{Slots}
use Rattle.recency.proofs.Links.{chain_same}
use Rattle.recency.proofs.Moves.{linked_end, linked_next, linked_pushed, pushed_apart}
use Rattle.recency.proofs.Pages.{pages_linked, pages_sound, map_same, linked_low}

-- what a request for page leaves of the row
pub record Served (k : ℕ) (row : List ℕ) (page : ℕ) (row' : List ℕ) : Type 0 where
  pub sound : Sound k row'
  pub after : pages row' ≡ lru k (pages row) page
  pub beyond : drop (9 * k + 5) row' ≡ drop (9 * k + 5) row

pub pages_once : (k : ℕ) (row : List ℕ) → Sound k row → distinct (pages row) ≡ true
pages_once k row sound = rw (pages_sound k row sound) sound.once

pub home_below : (k page : ℕ) → 1 ≤ k → k ≤ 4096 → home k page < 4 * k
unfolding home spread
home_below k page low high = grind (arith)

-- a ring whose slots have the same links
pub linked_same :
    (n : ℕ) (row row' order : List ℕ) → ((t : ℕ) → t ≤ n → next row' t ≡ next row t) → ((t : ℕ) → t ≤ n → prev row' t ≡ prev row t) →
    Linked n row order → Linked n row' order
linked_same n row row' order nexts prevs linked =
    record {
      chain = chain_same (next row) (prev row) (next row') (prev row') order 0 0
          (λ t h. nexts t (linked_end n row order linked t h)) (λ t h. prevs t (linked.within t h)) (prevs 0 (omega arith)) linked.chain;
      once = linked.once;
      within = linked.within;
    }

-- base is row made ready for a page in slot s: the slot is neither in the ring nor in a chain, and all others are those of rest
pub record Ready (k : ℕ) (row base : List ℕ) (s : ℕ) (rest : List ℕ) : Type 0 where
  pub sized : Sized k base
  pub linked : Linked (count base) base rest
  pub finds : Finds k base rest
  pub absent : has (0 ∷ rest) s ≡ false
  pub low : 1 ≤ s
  pub high : s ≤ count base
  pub many : suc (length rest) ≡ count base
  pub all : (t : ℕ) → 1 ≤ t → t ≤ count base → has (s ∷ rest) t ≡ true
  pub pages : (t : ℕ) → has rest t ≡ true → held base t ≡ held row t
  pub beyond : drop (9 * k + 5) base ≡ drop (9 * k + 5) row

module _ (k : ℕ) (row base : List ℕ) (s : ℕ) (rest : List ℕ) (page : ℕ) (ready : Ready k row base s rest) where
  abbrev written : List ℕ
  written = set base (5 * s + 2) page

  abbrev put : List ℕ
  put = pushed written s

  written_count : count written ≡ count base
  written_count = get_or-set_other base (5 * s + 2) 3 page 0 (λ e. omega arith)

  written_long : 9 * k + 5 ≤ length written
  written_long = omega (arith, length-set base (5 * s + 2) page, ready.sized.long)

  written_linked : Linked (count written) written rest
  written_linked =
      rw written_count
      (linked_same (count base) base written rest (λ t _. get_or-set_other base (5 * s + 2) (5 * t) page 0 (λ e. omega arith))
      (λ t _. get_or-set_other base (5 * s + 2) (5 * t + 1) page 0 (λ e. omega arith)) ready.linked)

  pub inside : s ≤ k
  inside = omega (arith, ready.high, ready.sized.few)

  head : next written 0 ≤ k
  head = omega (arith, linked_next (count written) written rest written_linked 0 (has_first 0 rest), written_count, ready.sized.few)

  put_apart : Apart k (Ring k) written put
  put_apart = pushed_apart k written written_long s inside head

  slots : Slots k rest
  slots t there =
      (linked_low (count base) base rest ready.linked t there, omega (arith, ready.linked.within t there, ready.sized.few))

  rest_absent : has rest s ≡ false
  rest_absent = (has_tail 0 rest s ready.absent).1

  pub base_head : next base 0 ≤ k
  base_head = omega (arith, linked_next (count base) base rest ready.linked 0 (has_first 0 rest), ready.sized.few)

  pub base_first : get_or base (door k (home k page)) 0 ≤ k
  base_first = door_near k base rest (home k page) slots ready.finds (home_below k page ready.sized.low ready.sized.high)

  put_held : held put s ≡ page
  put_held = relinked_held k written put put_apart s ∙ get_or-set_same base (5 * s + 2) page 0 (omega (arith, inside, ready.sized.long))

  put_finds : Finds k put rest
  put_finds =
      finds_same k written put rest (λ t _. relinked_held k written put put_apart t)
      (λ t _. (relinked_behind k written put put_apart t, relinked_lead k written put put_apart t)) (relinked_door k written put put_apart)
      (finds_same k base written rest
      (λ t there. get_or-set_other base (5 * s + 2) (5 * t + 2) page 0 (λ e. has_apart rest t s there rest_absent (omega arith)))
      (λ t _. (get_or-set_other base (5 * s + 2) (5 * t + 3) page 0 (λ e. omega arith), get_or-set_other base (5 * s + 2) (5 * t + 4) page 0 (λ e. omega arith)))
      (λ i le. get_or-set_other base (5 * s + 2) i page 0 (λ e. omega (arith, inside))) ready.finds)

  put_long : 9 * k + 5 ≤ length put
  put_long = omega (arith, put_apart.len, written_long)

  put_below : home_of k put s < 4 * k
  put_below = home_below k (held put s) ready.sized.low ready.sized.high

  abbrev after : List ℕ
  after = entered put (door k (home_of k put s)) s

  pub after_is : after ≡ admitted k base s page
  after_is = ap (λ (p : ℕ). entered put (door k (home k p)) s) put_held

  after_finds : Finds k after (s ∷ rest)
  after_finds =
      finds_entered k put put_long rest s ready.low inside slots (distinct_cons 0 rest ready.linked.once).1 rest_absent put_finds put_below

  after_apart : Apart k (Chains k) put after
  after_apart = in_apart k put put_long rest s ready.low inside slots (distinct_cons 0 rest ready.linked.once).1 rest_absent put_finds put_below

  after_count : count after ≡ count base
  after_count = rechained_count k put after after_apart ∙ relinked_count k written put put_apart ∙ written_count

  after_sized : Sized k after
  after_sized =
      rechained_sized k put after after_apart
      (relinked_sized k written put put_apart
      (record { low = ready.sized.low; high = ready.sized.high; long = written_long; few = omega (arith, written_count, ready.sized.few) }))

  after_linked : Linked (count after) after (s ∷ rest)
  after_linked =
      rw after_count
      (linked_same (count base) put after (s ∷ rest)
      (λ t le. rechained_next k put after after_apart t (omega (arith, ready.sized.few)))
      (λ t le. rechained_prev k put after after_apart t (omega (arith, ready.sized.few)))
      (linked_pushed k (count base) written written_long ready.sized.few rest s (rw written_count at written_linked) ready.absent ready.high))

  after_held : (t : ℕ) → t ≤ k → held after t ≡ held written t
  after_held t le = rechained_held k put after after_apart t le ∙ relinked_held k written put put_apart t

  after_pages : map (held after) (s ∷ rest) ≡ page ∷ map (held row) rest
  after_pages =
      let own : held after s ≡ page = rechained_held k put after after_apart s inside ∙ put_held in
      let others = map_same (held after) (held row) rest
      (λ t there. after_held t (slots t there).1
      ∙ get_or-set_other base (5 * s + 2) (5 * t + 2) page 0 (λ e. has_apart rest t s there rest_absent (omega arith)) ∙ ready.pages t there) in
      cc

  after_beyond : drop (9 * k + 5) after ≡ drop (9 * k + 5) row
  after_beyond =
      after_apart.beyond ∙ put_apart.beyond ∙ drop-set-lt (9 * k + 5) base (5 * s + 2) page (omega (arith, inside)) ∙ ready.beyond

  -- what the row then is, where its pages are those after the request
  pub served : Sound k row → page ∷ map (held row) rest ≡ lru k (pages row) page → Served k row page (admitted k base s page)
  served sound holds =
      let c = after_count in
      let order = after_pages ∙ holds in
      rw (← after_is)
      record {
        sound = record {
          sized = after_sized;
          order = s ∷ rest;
          linked = after_linked;
          many = omega (arith, ready.many);
          all = λ t low high. ready.all t low (omega arith);
          once = rw order (lru_distinct k page (pages row) (pages_once k row sound));
          finds = after_finds;
        };
        after = pages_linked (count after) after (s ∷ rest) after_linked (omega (arith, ready.many)) ∙ order;
        beyond = after_beyond;
      }
