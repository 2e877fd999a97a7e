use Rattle.std.proofs.Common.{arith}
use Rattle.picture.proofs.Bounded.{height_fits}
use Rattle.picture.proofs.scales.Scale.height.Goals as goal

pub overflow_sub-result : goal.overflow_sub-result
overflow_sub-result c = height_fits c.args.self.top c.min.result (omega arith)
