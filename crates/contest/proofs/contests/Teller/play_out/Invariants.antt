use Rattle.std.proofs.Common.{min}
use Rattle.contest.specs.Contest.{Turned}
use Rattle.contest.proofs.contests.Teller.play_out.Given as goal

abbrev pub invariant-loop-from : goal.invariant-loop-from
invariant-loop-from g l =
    Turned (g.P.Policy.policy l.initial.keeper) (min l.from l.n) l.initial.current l.initial.row (g.P.Policy.policy l.keeper) l.current l.row
