-- A slot of the ring made ready for a page: that of the page itself, or of the page used longest ago.
use Rattle.std.proofs.Common.{◌≡◌, ℕ, ◌+◌, ◌*◌, ◌<◌, ◌≤◌, true, List, ◌∷◌, ◌++◌, map, length, get_or, sym, ap, ◌∙◌, arith}
use Rattle.std.proofs.lemmas.List.{length-append, map-append}
use Rattle.paging.specs.Lists.{has, distinct}
use Rattle.paging.proofs.Appends.{has_cut, has_first, has_later, distinct_cut, distinct_cons, Cut, cut_at}
use Rattle.paging.proofs.Requests.{lru_there}
use Rattle.recency.specs.Hash.{home}
use Rattle.recency.specs.Row as Row
use Rattle.recency.specs.Row.{count, door, next, prev, held, behind, lead, pages, unlinked, forgotten, renewed, home_of}
use Rattle.recency.specs.Sound.{Linked, Finds, Sound}
use Rattle.recency.proofs.Chained.{finds_same}
use Rattle.recency.proofs.Forgotten.{finds_forgot, forgot_apart, own_lead, own_near}
use Rattle.recency.proofs.Frames.{Apart, leads_below, Ring, Chains, Leads, relinked_held, relinked_behind, relinked_lead, relinked_door, relinked_count, relinked_sized, rechained_next, rechained_prev, rechained_held, rechained_count, rechained_sized}
use Rattle.recency.proofs.Led.{Slots}
use Rattle.recency.proofs.Moves.{linked_next, linked_prev, linked_unlinked, unlinked_apart}
use Rattle.recency.proofs.Pages.{pages_sound, length_pages, linked_low}
use Rattle.recency.proofs.Served.{Served, Ready, served, base_head, base_first, home_below, linked_same, pages_once}

module _ (k : ℕ) (row : List ℕ) (sound : Sound k row) (xs : List ℕ) (s : ℕ) (ys : List ℕ) (joins : sound.order ≡ xs ++ s ∷ ys) where
  linked : Linked (count row) row (xs ++ s ∷ ys)
  linked = rw joins at sound.linked

  here : has (xs ++ s ∷ ys) s ≡ true
  here = has_cut xs s ys s ∙ has_first s (xs ++ ys)

  pub low : 1 ≤ s
  low = linked_low (count row) row (xs ++ s ∷ ys) linked s here

  pub high : s ≤ count row
  high = linked.within s here

  pub inside : s ≤ k
  inside = omega (arith, high, sound.sized.few)

  slots : Slots k (xs ++ s ∷ ys)
  slots t there =
      (linked_low (count row) row (xs ++ s ∷ ys) linked t there, omega (arith, linked.within t there, sound.sized.few))

  once : distinct (xs ++ s ∷ ys) ≡ true
  once = (distinct_cons 0 (xs ++ s ∷ ys) linked.once).1

  finds : Finds k row (xs ++ s ∷ ys)
  finds = rw joins at sound.finds

  below : home_of k row s < 4 * k
  below = home_below k (held row s) sound.sized.low sound.sized.high

  pub lead_leads : Leads k (lead row s)
  lead_leads = (own_lead k row sound.sized.long xs s ys slots once finds below).0

  pub behind_near : behind row s ≤ k
  behind_near = own_near k row sound.sized.long xs s ys slots once finds below

  abbrev pub out : List ℕ
  out = forgotten row s

  out_apart : Apart k (Chains k) row out
  out_apart = forgot_apart k row sound.sized.long s low inside lead_leads behind_near

  out_finds : Finds k out (xs ++ ys)
  out_finds = finds_forgot k row sound.sized.long xs s ys slots once finds below

  pub out_count : count out ≡ count row
  out_count = rechained_count k row out out_apart

  pub out_long : 9 * k + 5 ≤ length out
  out_long = omega (arith, out_apart.len, sound.sized.long)

  out_linked : Linked (count row) out (xs ++ s ∷ ys)
  out_linked =
      linked_same (count row) row out (xs ++ s ∷ ys) (λ t le. rechained_next k row out out_apart t (omega (arith, sound.sized.few)))
      (λ t le. rechained_prev k row out out_apart t (omega (arith, sound.sized.few))) linked

  there : has (0 ∷ xs ++ s ∷ ys) s ≡ true
  there = has_later 0 (xs ++ s ∷ ys) s here

  pub after_near : next out s ≤ k
  after_near = omega (arith, linked_next (count row) out (xs ++ s ∷ ys) out_linked s there, sound.sized.few)

  pub before_near : prev out s ≤ k
  before_near = omega (arith, linked_prev (count row) out (xs ++ s ∷ ys) out_linked s there, sound.sized.few)

  abbrev pub free : List ℕ
  free = unlinked out s

  free_apart : Apart k (Ring k) out free
  free_apart = unlinked_apart k out out_long s inside after_near before_near

  pub free_count : count free ≡ count row
  free_count = relinked_count k out free free_apart ∙ out_count

  free_linked : Linked (count row) free (xs ++ ys)
  free_linked = linked_unlinked k (count row) out out_long sound.sized.few xs s ys out_linked

  many : length (xs ++ ys) + 1 ≡ count row
  many = omega (arith, ap length joins, sound.many, length-append xs ys, length-append xs (s ∷ ys))

  -- what stays, without the slot
  pub ready : Ready k row free s (xs ++ ys)
  ready =
      let c = free_count in
      let h = high in
      let m = many in
      record {
        sized = relinked_sized k out free free_apart (rechained_sized k row out out_apart sound.sized);
        linked = rw c free_linked;
        finds = finds_same k out free (xs ++ ys) (λ t _. relinked_held k out free free_apart t)
            (λ t _. (relinked_behind k out free free_apart t, relinked_lead k out free free_apart t)) (relinked_door k out free free_apart) out_finds;
        absent = (distinct_cut s ys (0 ∷ xs) linked.once).1;
        low = low;
        high = omega arith;
        many = omega arith;
        all = λ t tlow thigh. sym (has_cut xs s ys t) ∙ ap (λ (zs : List ℕ). has zs t) (sym joins) ∙ sound.all t tlow (omega arith);
        pages = λ t in-rest. relinked_held k out free free_apart t
            ∙ rechained_held k row out out_apart t (slots t (has_cut xs s ys t ∙ has_later s (xs ++ ys) t in-rest)).1;
        beyond = free_apart.beyond ∙ out_apart.beyond;
      }

  pages_are : pages row ≡ map (held row) xs ++ held row s ∷ map (held row) ys
  pages_are = pages_sound k row sound ∙ ap (map (held row)) joins ∙ map-append (held row) xs (s ∷ ys)

  -- the page of the slot is requested
  pub hit : Served k row (held row s) (renewed k row s (held row s))
  hit =
      let front = map (held row) xs in
      let back = map (held row) ys in
      let one : distinct (front ++ held row s ∷ back) ≡ true = ap distinct (sym pages_are) ∙ pages_once k row sound in
      let short : length (front ++ held row s ∷ back) ≤ k = omega (arith, ap length pages_are, length_pages k row sound, sound.sized.few) in
      served k row free s (xs ++ ys) (held row s) ready sound (rw (pages_are, lru_there k (held row s) front back one short, map-append (held row) xs ys))

-- the same for any slot of the ring, by its number
module _ (k : ℕ) (row : List ℕ) (sound : Sound k row) (s : ℕ) (some : 1 ≤ s) (few : s ≤ count row) where
  abbrev cut : Cut sound.order s
  cut = cut_at sound.order s (sound.all s some few)

  -- what the edits of `renew` rest on
  pub record Renews (page : ℕ) : Type 0 where
    pub start : 5 * s + 4 < length row
    pub lead : lead row s < length row
    pub behind : 5 * behind row s + 4 < length row
    pub slot : 5 * s + 4 < length (forgotten row s)
    pub next : 5 * next (forgotten row s) s + 4 < length (forgotten row s)
    pub prev : 5 * prev (forgotten row s) s + 4 < length (forgotten row s)
    pub long : 9 * k + 5 ≤ length (unlinked (forgotten row s) s)
    pub inside : s ≤ k
    pub head : Row.next (unlinked (forgotten row s) s) 0 ≤ k
    pub first : get_or (unlinked (forgotten row s) s) (door k (home k page)) 0 ≤ k

  pub renews : (page : ℕ) → Renews page
  renews page =
      let c = cut in
      let long = sound.sized.long in
      let in-k = inside k row sound c.front s c.back c.joins in
      let out-long = out_long k row sound c.front s c.back c.joins in
      let r = ready k row sound c.front s c.back c.joins in
      record {
        start = omega arith;
        lead = omega (arith, leads_below k (lead row s) (lead_leads k row sound c.front s c.back c.joins));
        behind = omega (arith, behind_near k row sound c.front s c.back c.joins);
        slot = omega arith;
        next = omega (arith, after_near k row sound c.front s c.back c.joins);
        prev = omega (arith, before_near k row sound c.front s c.back c.joins);
        long = r.sized.long;
        inside = in-k;
        head = base_head k row (unlinked (forgotten row s) s) s (c.front ++ c.back) page r;
        first = base_first k row (unlinked (forgotten row s) s) s (c.front ++ c.back) page r;
      }

  pub renewed_hit : (page : ℕ) → held row s ≡ page → Served k row page (renewed k row s page)
  renewed_hit page e = rw (← e) (hit k row sound cut.front s cut.back cut.joins)
