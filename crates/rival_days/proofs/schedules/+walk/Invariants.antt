use Rattle.std.proofs.Common.{length}
use Rattle.rival_days.proofs.schedules.+walk.Given as goal

abbrev pub decreases-walk : goal.decreases-walk
decreases-walk l = length l.left.now
