-- So far the best is one of those that were seen, and the tightest of them.
use Rattle.std.proofs.Common.{◌≡◌, ◌+◌, ◌-◌, ◌≤◌, get_or}
use Rattle.summary.proofs.Fractions.{TightOf}
use Rattle.summary.proofs.reads.tightest.Given as goal

abbrev pub invariant-loop-i : goal.invariant-loop-i
invariant-loop-i l =
    record {
      low : 1 ≤ l.tight;
      seen : l.tight ≤ l.i + 1;
      high : l.tight ≤ l.k;
      against_is : l.against ≡ get_or l.known (l.tight - 1) 0;
      tightest : TightOf (λ h. get_or l.known (h - 1) 0) l.k (l.i + 1) l.tight;
    }
