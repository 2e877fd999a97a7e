use Rattle.std.proofs.Common.{◌≡◌, ℕ, ◌+◌, ◌-◌, get_or, length, arith}
use Rattle.summary.proofs.Fractions.{tight_stays, tight_moves}
use Rattle.summary.proofs.reads.tightest.Goals.{then-fewest-k, else-fewest-k}
use Rattle.summary.proofs.reads.tightest.Goals as goal

pub loop-i-preserved : goal.loop-i-preserved
loop-i-preserved c =
    let known = λ (h : ℕ). get_or c.args.known.now (h - 1) 0 in
    let k = length c.args.known.now in
    let i = c.loop-i.i in
    let was = c.loop-i.invariant in
    let same : i + 1 - 1 ≡ i = omega arith in
    let against = was.against_is in
    elim c.if-fewest-k.branch [
      | then-fewest-k w ↦ rw (w.tight-is, w.against-is) (record {
        low = omega arith;
        seen = omega arith;
        high = omega arith;
        against_is = rw same;
        tightest = tight_moves known k (i + 1) c.loop-i.tight was.seen (omega arith) was.tightest (rw (same, ← against) w.if-fewest-k.true);
      })
      | else-fewest-k w ↦ rw (w.tight-is, w.against-is) (record {
        low = was.low;
        seen = omega arith;
        high = was.high;
        against_is = against;
        tightest = tight_stays known k (i + 1) c.loop-i.tight was.seen (omega arith) was.tightest (rw (same, ← against) w.if-fewest-k.false);
      })
    ]
