-- The step of a loop over a trace that keeps the sifted row for all capacities at once, cut to as many places as there are counters.
--     Row trace i hits pages keys n     after the first i requests of trace the first n of pages are the row, the first n of keys its next uses,
--                                       and hits counts at each place how many requests found their page there
use Rattle.std.proofs.Common.{◌≡◌, ℕ, ◌+◌, ◌<◌, ◌≤◌, true, List, length, get_or, take, drop, set, replicate, sym, refl, arith}
use Rattle.std.proofs.lemmas.List.{length-set, get_or-take}
use Rattle.std.proofs.lemmas.Bool.Decides.{nat_tests}
use Rattle.paging.specs.Belady.{next_use, belady_fetches}
use Rattle.paging.specs.Lists.{distinct}
use Rattle.paging.specs.Sifted.{sifted}
use Rattle.paging.proofs.Keyed.{Keyed, keyed_put, keyed_push, keyed_next}
use Rattle.paging.proofs.Lists.{distinct_take}
use Rattle.paging.proofs.Sifted.{sifted_once, sift_steps_at, first_sifted}
use Rattle.paging.proofs.Sifting.{Sifting, sifting_found, sifting_pushed, sifting_dropped}
use Rattle.paging.proofs.Tallies.{Tallied, tallied_none, tallied_found, tallied_absent, Steps}

pub record Row (trace : List ℕ) (i : ℕ) (hits pages keys : List ℕ) (n : ℕ) : Type 0 where
  pub once : distinct (take n pages) ≡ true
  pub keyed : Keyed trace i pages keys n
  pub tallied : Tallied belady_fetches hits i trace (take n pages)

pub row_none : (trace : List ℕ) (m : ℕ) (pages keys : List ℕ) → Row trace 0 (replicate m 0) pages keys 0
unfolding distinct
row_none trace m pages keys = record { once = refl; keyed = λ j lt. grind (arith, nat_tests); tallied = tallied_none belady_fetches m trace }

-- the row as the loop over it found it, and what that has made of pages and keys when it is done: it carries a page with its key, and next is the
-- next use of the page requested
module _
    (trace : List ℕ) (i : ℕ) (hits before keys-before : List ℕ) (n : ℕ) (row : Row trace i hits before keys-before n)
    (page next : ℕ) (lt : i < length trace) (here : get_or trace i 0 ≡ page) (is-next : next ≡ (i + 1) + next_use page (drop (i + 1) trace))
    (pages keys : List ℕ) (k carry key : ℕ) (s : Sifting (drop i trace) page (take n before) pages n k carry)
    (keyed : Keyed trace i pages keys n) (is_key : key ≡ i + next_use carry (drop i trace))
    (pos : 0 < length hits) (fits : n ≤ length hits) (long : length hits ≤ length pages) (as_long : length hits ≤ length keys)
  where
    after : List ℕ
    after = take (length hits) (sifted (drop i trace) page page (take n before))

    -- however the loop ended, with the new key written in front
    ended :
        (row-pages row-keys counted : List ℕ) (l : ℕ) → after ≡ take l row-pages → 0 < l → l ≤ length row-pages → l ≤ length row-keys →
        Keyed trace i row-pages row-keys l → Tallied belady_fetches counted (i + 1) trace after →
        Row trace (i + 1) counted row-pages (set row-keys 0 next) l
    unfolding after
    ended row-pages row-keys counted l e some lp lk k t =
        let once = distinct_take (length hits) _ (sifted_once (drop i trace) page (take n before) row.once) in
        let first = first_sifted (length hits) (take n before) trace i page pos lt here in
        let u : distinct (take l row-pages) ≡ true = rw e at once in
        let f : get_or (take l row-pages) 0 0 ≡ page = rw e at first in
        let z = get_or-take l row-pages 0 0 some in
        let g : get_or row-pages 0 0 ≡ page = cc in
        record { once = u; keyed = keyed_next trace i row-pages row-keys l k next lt some lp lk u (cc) (rw g is-next); tallied = rw e at t }

    steps : Steps belady_fetches (length hits) (take n before) page (drop (i + 1) trace) after
    unfolding after
    steps = sift_steps_at (length hits) (take n before) trace i page lt here row.once

    -- the page requested stood at place k
    pub row_found :
        k < n → get_or pages k 0 ≡ page → Row trace (i + 1) (set hits k (get_or hits k 0 + 1)) (set pages k carry) (set (set keys k key) 0 next) n
    unfolding after
    row_found below at-k =
        let f = sifting_found (drop i trace) page (take n before) pages n k carry s below (omega arith) (length hits) fits at-k in
        let p = keyed_put trace i pages keys n keyed k carry key (omega arith) (omega arith) is_key in
        let counted = tallied_found belady_fetches hits i trace (take n before) row.tallied after page lt here steps k in
        let t = counted (sym f.2) f.1 (omega arith) in
        ended _ _ _ n f.0 (omega arith) (simp length-set (omega arith)) (simp length-set (omega arith)) p t

    module _ (end : k ≡ n) where
      -- it was not there, and there is a place for the page carried
      pub row_pushed : n < length hits → Row trace (i + 1) hits (set pages n carry) (set (set keys n key) 0 next) (n + 1)
      unfolding after
      row_pushed room =
          let f = sifting_pushed (drop i trace) page (take n before) pages n k carry s end (length hits) room (omega arith) in
          let p = keyed_push trace i pages keys n keyed n carry key (omega arith) (omega arith) is_key refl in
          let counted = tallied_absent belady_fetches hits i trace (take n before) row.tallied after page lt here steps in
          let t = counted (λ there. grind (arith, nat_tests)) in
          ended _ _ _ (n + 1) f.0 (omega arith) (simp length-set (omega arith)) (simp length-set (omega arith)) p t

      -- and there is none: the page carried goes
      pub row_dropped : n ≡ length hits → Row trace (i + 1) hits pages (set keys 0 next) n
      unfolding after
      row_dropped full =
          let f = sifting_dropped (drop i trace) page (take n before) pages n k carry s end (omega arith) in
          let counted = tallied_absent belady_fetches hits i trace (take n before) row.tallied after page lt here steps in
          let t = counted (λ there. grind (arith, nat_tests)) in
          ended pages keys hits n (rw (← full) f.0) (omega arith) (omega arith) (omega arith) keyed t
