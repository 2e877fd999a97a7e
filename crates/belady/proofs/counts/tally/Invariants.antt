use Rattle.std.proofs.Common.{◌≡◌, ◌≤◌, length}
use Rattle.paging.proofs.Rows.{Row}
use Rattle.belady.proofs.counts.tally.Given as goal

abbrev pub invariant-loop-i : goal.invariant-loop-i
invariant-loop-i l =
    record {
      few : l.sieve.len ≤ length l.hits;
      row : Row l.trace l.i l.hits l.sieve.pages l.sieve.keys l.sieve.len;
      size : length l.hits ≡ length l.initial.hits;
    }
