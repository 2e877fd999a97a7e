-- The page that is looked for stands in slot 0: no page of the row, and nothing else of it, has changed.
use Rattle.std.proofs.Common.{◌≡◌, ℕ, ◌+◌, ◌*◌, List, map, get_or, drop, set, sym, ◌∙◌, arith}
use Rattle.std.proofs.lemmas.List.{get_or-set_same, get_or-set_other, length-set, drop-set-lt}
use Rattle.recency.specs.Row.{count, held, pages}
use Rattle.recency.specs.Sound.{Sound}
use Rattle.recency.proofs.Chained.{finds_same}
use Rattle.recency.proofs.Pages.{pages_sound, map_same, linked_low}
use Rattle.recency.proofs.Served.{linked_same}

module _ (k : ℕ) (row : List ℕ) (page : ℕ) (sound : Sound k row) where
  abbrev sought : List ℕ
  sought = set row 2 page

  pub sought_there : held sought 0 ≡ page
  sought_there = get_or-set_same row 2 page 0 (omega (arith, sound.sized.long))

  else_same : (i : ℕ) → (2 ≡ i → ⊥) → get_or sought i 0 ≡ get_or row i 0
  else_same i ne = get_or-set_other row 2 i page 0 (λ e. ne (sym e))

  pub sought_count : count sought ≡ count row
  sought_count = else_same 3 (λ e. omega arith)

  held_same : map (held sought) sound.order ≡ map (held row) sound.order
  held_same =
      map_same (held sought) (held row) sound.order
      (λ t there. else_same (5 * t + 2) (λ e. omega (arith, linked_low (count row) row sound.order sound.linked t there)))

  pub sought_sound : Sound k sought
  sought_sound =
      let c = sought_count in
      let few = sound.sized.few in
      let many = sound.many in
      record {
        sized = record { low = sound.sized.low; high = sound.sized.high; long = omega (arith, length-set row 2 page, sound.sized.long); few = omega arith };
        order = sound.order;
        linked = rw c
            (linked_same (count row) row sought sound.order (λ t _. else_same (5 * t) (λ e. omega arith)) (λ t _. else_same (5 * t + 1) (λ e. omega arith))
            sound.linked);
        many = omega arith;
        all = λ t low high. sound.all t low (omega arith);
        once = rw held_same sound.once;
        finds = finds_same k row sought sound.order
            (λ t there. else_same (5 * t + 2) (λ e. omega (arith, linked_low (count row) row sound.order sound.linked t there)))
            (λ t _. (else_same (5 * t + 3) (λ e. omega arith), else_same (5 * t + 4) (λ e. omega arith)))
            (λ i le. else_same i (λ e. omega (arith, sound.sized.low))) sound.finds;
      }

  pub sought_pages : pages sought ≡ pages row
  unfolding sought_sound
  sought_pages = pages_sound k sought sought_sound ∙ held_same ∙ sym (pages_sound k row sound)

  pub sought_beyond : drop (9 * k + 5) sought ≡ drop (9 * k + 5) row
  sought_beyond = drop-set-lt (9 * k + 5) row 2 page (omega (arith, sound.sized.low))
