-- A page carried down a row: where it begins, and past one place, where the page there stays or is carried on.
use Rattle.std.proofs.Common.{◌≡◌, ℕ, ◌+◌, ◌<◌, ◌≤◌, List, length, get_or, take, drop, set, refl, arith}
use Rattle.paging.proofs.Keyed.{Keyed, keyed_put}
use Rattle.paging.proofs.Places.{place_found}
use Rattle.paging.proofs.Sifting.{sifting_none, sifting_stays, sifting_swaps}
use Rattle.belady.specs.Sifts.{Carried}

pub carried_none :
    (trace : List ℕ) (i : ℕ) (pages keys : List ℕ) (n : ℕ) → i < length trace → Keyed trace i pages keys n →
    Carried trace i (take n pages) pages keys n 0 (get_or trace i 0) i
carried_none trace i pages keys n lt keyed =
    record {
      sifting = sifting_none (drop i trace) (get_or trace i 0) pages n;
      keyed = keyed;
      is_key = omega (arith, place_found (get_or trace i 0) trace i lt refl);
    }

module _
    (trace : List ℕ) (i : ℕ) (entry pages keys : List ℕ) (n k carry key : ℕ) (so_far : Carried trace i entry pages keys n k carry key)
    (lt : k < n) (fits : n ≤ length pages) (other : get_or pages k 0 ≡ get_or trace i 0 → ⊥)
  where
    pub carried_stays : get_or keys k 0 ≤ key → Carried trace i entry pages keys n (k + 1) carry key
    carried_stays near =
        let here = so_far.keyed k lt in
        let is_key = so_far.is_key in
        record {
          sifting = sifting_stays (drop i trace) (get_or trace i 0) entry pages n k carry so_far.sifting lt fits other (omega arith);
          keyed = so_far.keyed;
          is_key = is_key;
        }

    pub carried_swaps :
        n ≤ length keys → key < get_or keys k 0 →
        Carried trace i entry (set pages k carry) (set keys k key) n (k + 1) (get_or pages k 0) (get_or keys k 0)
    carried_swaps room far =
        let here = so_far.keyed k lt in
        let is_key = so_far.is_key in
        record {
          sifting = sifting_swaps (drop i trace) (get_or trace i 0) entry pages n k carry so_far.sifting lt fits other (omega arith);
          keyed = keyed_put trace i pages keys n so_far.keyed k carry key (omega arith) (omega arith) is_key;
          is_key = here;
        }
