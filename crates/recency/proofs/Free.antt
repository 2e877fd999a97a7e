-- The next free slot made ready for a page.
use Rattle.std.proofs.Common.{◌≡◌, ℕ, ◌+◌, ◌*◌, ◌<◌, ◌≤◌, false, List, ◌∷◌, get_or, set, sym, ap, ◌∙◌, ⊎_elim, arith}
use Rattle.std.proofs.lemmas.List.{get_or-set_same, get_or-set_other, length-set, drop-set-lt}
use Rattle.std.proofs.lemmas.Bool.{cases_eq}
use Rattle.paging.specs.Lists.{has}
use Rattle.paging.proofs.Appends.{has_first, has_later, has_none}
use Rattle.paging.proofs.Requests.{lru_free}
use Rattle.recency.specs.Row.{count, pages, admitted}
use Rattle.recency.specs.Sound.{Linked, Sound}
use Rattle.recency.proofs.Chained.{finds_same}
use Rattle.recency.proofs.Moves.{linked_end}
use Rattle.recency.proofs.Pages.{pages_sound, length_pages, linked_low}
use Rattle.recency.proofs.Served.{Served, Ready, served, linked_same}

module _ (k : ℕ) (row : List ℕ) (sound : Sound k row) (room : count row < k) where
  abbrev counted : List ℕ
  counted = set row 3 (count row + 1)

  pub counted_count : count counted ≡ count row + 1
  counted_count = get_or-set_same row 3 (count row + 1) 0 (omega (arith, sound.sized.long))

  else_same : (i : ℕ) → (3 ≡ i → ⊥) → get_or counted i 0 ≡ get_or row i 0
  else_same i ne = get_or-set_other row 3 i (count row + 1) 0 (λ e. ne (sym e))

  counted_linked : Linked (count counted) counted sound.order
  counted_linked =
      let c = counted_count in
      let l = linked_same (count row) row counted sound.order (λ t _. else_same (5 * t) (λ e. omega arith)) (λ t _. else_same (5 * t + 1) (λ e. omega arith)) sound.linked in
      record { chain = l.chain; once = l.once; within = λ s h. omega (arith, l.within s h) }

  pub next_ready : Ready k row counted (count row + 1) sound.order
  next_ready =
      let c = counted_count in
      let low = linked_low (count row) row sound.order sound.linked in
      record {
        sized = record {
          low = sound.sized.low;
          high = sound.sized.high;
          long = omega (arith, length-set row 3 (count row + 1), sound.sized.long);
          few = omega arith;
        };
        linked = counted_linked;
        finds = finds_same k row counted sound.order (λ t _. else_same (5 * t + 2) (λ e. omega arith))
            (λ t there. (else_same (5 * t + 3) (λ e. omega (arith, low t there)), else_same (5 * t + 4) (λ e. omega arith)))
            (λ i le. else_same i (λ e. omega (arith, sound.sized.low))) sound.finds;
        absent = has_none _ _ (λ there. past (linked_end (count row) row sound.order sound.linked (count row + 1) there));
        low = omega arith;
        high = omega arith;
        many = omega (arith, sound.many);
        all = λ t tlow thigh.
            ⊎_elim (λ e. rw e (has_first (count row + 1) sound.order))
            (λ ne. has_later (count row + 1) sound.order t (sound.all t tlow (omega arith))) (cases_eq t (count row + 1));
        pages = λ t _. else_same (5 * t + 2) (λ e. omega arith);
        beyond = drop-set-lt (9 * k + 5) row 3 (count row + 1) (omega (arith, sound.sized.low));
      }
    where
      past : count row + 1 ≤ count row → ⊥
      past le = omega arith

  pub filled : (page : ℕ) → has (pages row) page ≡ false → Served k row page (admitted k counted (count row + 1) page)
  filled page new =
      served k row counted (count row + 1) sound.order page next_ready sound
      (ap (λ (xs : List ℕ). page ∷ xs) (sym (pages_sound k row sound))
      ∙ sym (lru_free k page (pages row) new (omega (arith, length_pages k row sound, room))))
