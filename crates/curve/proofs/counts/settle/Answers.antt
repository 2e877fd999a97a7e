use Rattle.curve.proofs.Sums.{settled_fits}
use Rattle.curve.proofs.counts.settle.Goals as goal

pub overflow_sub-left : goal.overflow_sub-left
overflow_sub-left c = settled_fits _ _ _ _ _ c.loop-hit.invariant c.requires.enough c.loop-hit-test.true
