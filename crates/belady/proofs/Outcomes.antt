-- The row for every capacity after a request, by where its page was carried.
use Rattle.std.proofs.Common.{◌≡◌, ℕ, ◌+◌, ◌<◌, ◌≤◌, List, length, get_or, take, set, refl, arith}
use Rattle.paging.specs.Belady.{belady_fetches}
use Rattle.paging.proofs.Belady.{belady_le}
use Rattle.paging.proofs.Rows.{Row, row_found, row_pushed, row_dropped}
use Rattle.paging.proofs.Tallies.{counter_le}
use Rattle.belady.specs.Ahead.{next_at}
use Rattle.belady.specs.Sifts.{Carried, Sifts}

module _
    (trace : List ℕ) (i : ℕ) (hits before keys-before : List ℕ) (n : ℕ) (row : Row trace i hits before keys-before n) (lt : i < length trace)
  where
    pub counter_fits : (d : ℕ) → d < length hits → get_or hits d 0 ≤ length trace
    counter_fits d within =
        counter_le belady_fetches hits i trace (take n before) row.tallied d within (omega arith) belady_le

    module _
        (next : ℕ) (is-next : next ≡ next_at trace i) (pages keys : List ℕ) (carry key : ℕ) (pos : 1 ≤ length hits) (fits : n ≤ length hits)
        (long : length hits ≤ length pages) (as_long : length hits ≤ length keys)
      where
        -- it stood at place k
        pub found :
            (k : ℕ) → (k < n) × Sifts trace i (take n before) pages keys n k carry key →
            Row trace (i + 1) (set hits k (get_or hits k 0 + 1)) (set pages k carry) (set (set keys k key) 0 next) n
        found k at =
            let s = at.1.carried in
            let below = at.0 in
            row_found trace i hits before keys-before n row (get_or trace i 0) next lt refl is-next pages keys k carry key s.sifting s.keyed
            s.is_key (omega arith) fits long as_long below (at.1.stops below)

        module _ (s : Carried trace i (take n before) pages keys n n carry key) where
          -- it was not there, and there is a place for the page carried
          pub pushed : n < length hits → Row trace (i + 1) hits (set pages n carry) (set (set keys n key) 0 next) (n + 1)
          pushed room =
              row_pushed trace i hits before keys-before n row (get_or trace i 0) next lt refl is-next pages keys n carry key s.sifting s.keyed
              s.is_key (omega arith) fits long as_long refl (omega arith)

          -- and there is none
          pub dropped : length hits ≤ n → Row trace (i + 1) hits pages (set keys 0 next) n
          dropped full =
              row_dropped trace i hits before keys-before n row (get_or trace i 0) next lt refl is-next pages keys n carry key s.sifting s.keyed
              s.is_key (omega arith) fits long as_long (omega arith) (omega arith)
