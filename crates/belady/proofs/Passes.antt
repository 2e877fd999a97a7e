-- One pass over the trace: before the first request, and after the last.
use Rattle.std.proofs.Common.{◌≡◌, ℕ, ◌≤◌, List, length, take, replicate, sum, refl, ◌∙◌, arith}
use Rattle.paging.specs.Belady.{belady_fetches}
use Rattle.paging.proofs.Rows.{Row, row_none}
use Rattle.paging.proofs.Tallies.{tallied_all}
use Rattle.belady.specs.Counts.{Tally}
use Rattle.curve.proofs.Passes.{tally_of_enough}

pub pass_none :
    (trace hits pages keys : List ℕ) (n : ℕ) → hits ≡ replicate (length hits) 0 → n ≡ 0 → Row trace 0 hits pages keys n
pass_none trace hits pages keys n none empty = rw (none, empty) (row_none trace (length hits) pages keys)

pub pass_all :
    (trace : List ℕ) (i : ℕ) (hits pages keys : List ℕ) (n : ℕ) → Row trace i hits pages keys n → i ≡ length trace → Tally trace hits
unfolding belady_fetches
pass_all trace i hits pages keys n row end c low high =
    tallied_all belady_fetches hits i trace (take n pages) row.tallied c (omega arith) high (omega arith) refl ∙ end

pub tally_enough : (trace hits : List ℕ) → 1 ≤ length hits → Tally trace hits → sum hits ≤ length trace
tally_enough = tally_of_enough belady_fetches
