use Rattle.std.proofs.Common.{string_bytes}
use Rattle.contest.specs.Contest.{Told}
use Rattle.contest.proofs.turns.play.Given as goal

abbrev pub invariant-loop-turn : goal.invariant-loop-turn
invariant-loop-turn g l =
    Told (g.P.Policy.policy l.initial.keeper) l._turn l.initial.current l.initial.row (string_bytes l.initial.text)
    (g.P.Policy.policy l.keeper) l.current l.row (string_bytes l.text)
