use Rattle.summary.proofs.Hundreds.{two_digits}
use Rattle.summary.proofs.amounts.HundredthsDisplay.fmt.Goals as goal

pub returns-clause-writes : goal.returns-clause-writes
returns-clause-writes g c = rw (two_digits c.args.self.now.0) at (rw c.laid_out.ensures at c.write.ensures.writes)
