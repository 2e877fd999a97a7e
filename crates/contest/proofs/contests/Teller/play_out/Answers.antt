use Rattle.std.proofs.Common.{◌≡◌, min, arith}
use Rattle.contest.proofs.Going.{turned_of, turned_none, turned_more}
use Rattle.contest.proofs.contests.Teller.play_out.Goals as goal

pub loop-from-init : goal.loop-from-init
loop-from-init g c = let none : min 0 c.args.n ≡ 0 = omega arith in rw none (turned_none _ _ _)

pub loop-from-preserved : goal.loop-from-preserved
loop-from-preserved g c = turned_more _ (omega arith) c.loop-from.invariant (turned_of c.in_ok-current.ensures.told)

pub returns-in_ok-current : goal.returns-in_ok-current
returns-in_ok-current g c = record { turned = turned_more _ (omega arith) c.loop-from.invariant (turned_of c.in_ok-current.ensures.told) }
