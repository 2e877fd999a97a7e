use Rattle.std.proofs.Common.{string_bytes, arith}
use Rattle.std.proofs.lemmas.Result.{err_from_is_err_and}
use Rattle.contest.proofs.Telling.{told_none, told_more, told_stops}
use Rattle.contest.proofs.turns.play.Goals as goal

pub loop-turn-init : goal.loop-turn-init
loop-turn-init g c = told_none _ _ _ _

pub loop-turn-preserved : goal.loop-turn-preserved
loop-turn-preserved g c =
    let e = c.in_ok-current.ensures in
    told_more c.loop-turn.invariant e.stepped e.served e.line

pub returns-in_err-current-clause-refused : goal.returns-in_err-current-clause-refused
returns-in_err-current-clause-refused g c =
    let p = err_from_is_err_and c.from_residual.result c.from_residual.ensures.1 in
    let e = c.in_err-current.ensures in
    rw (p.1, p.2) (told_stops g.P.Policy.policy string_bytes c.in_err-current.field-0.0 _ _ _ _ _ (omega arith) c.loop-turn.invariant e.refused e.same)
