use Rattle.curve.proofs.Sums.{Settled}
use Rattle.curve.proofs.counts.settle.Given as goal

abbrev pub invariant-loop-hit : goal.invariant-loop-hit
invariant-loop-hit l = Settled l.initial.hits l.requests l.hit-index l.left l.hits
