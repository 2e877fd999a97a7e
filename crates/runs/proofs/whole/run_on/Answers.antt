use Rattle.std.proofs.Common.{rules, ◌≡◌, [], ◌∙◌}
use Rattle.std.proofs.lemmas.Result.{err_from_is_err_and}
use Rattle.runs.proofs.Mapped.{mapped}
use Rattle.runs.proofs.Wholes.{asked_is, whole_ran, whole_broke, halted_broke}
use Rattle.runs.proofs.whole.run_on.Goals as goal

pub returns-in_err-end-clause-broke : goal.returns-in_err-end-clause-broke
returns-in_err-end-clause-broke g c =
    let p = err_from_is_err_and c.from_residual.result c.from_residual.ensures.1 in
    let r = c.in_err-end.ensures in
    let s = c.args.challenge in
    let far = rw (asked_is _ s.k s.h c.args.rounds c.count-totals.ensures.value) at r.far in
    rw (p.1, p.2) (halted_broke s.k s.h c.args.rounds (g.P.Policy.policy c.args.keeper.now) _ _ _ far r.halted)

pub returns-in_err-map_err-clause-broke : goal.returns-in_err-map_err-clause-broke
returns-in_err-map_err-clause-broke g c =
    let d = c.in_err-map_err.field-0.0 in
    let m = rw c.in_err-map_err.was at (mapped c.accept.result c.map_err.result _ c.map_err.ensures.cases) in
    let last = c.count-totals.result.asked in
    let stopped : d ≡ record { after = last; refusal = m.0 } = search rules in
    let p = err_from_is_err_and c.from_residual-in_err-map_err.result c.from_residual-in_err-map_err.ensures.1 in
    let refused = rw m.1 at c.accept.ensures.refused in
    let s = c.args.challenge in
    let policy = g.P.Policy.policy in
    let r = c.in_ok-end.ensures in
    let asked = asked_is _ s.k s.h c.args.rounds c.count-totals.ensures.value in
    let against = rw asked at r.against in
    let led = rw asked at r.led in
    let is = c.shown.ensures.value ∙ led [] in
    rw (p.1, p.2, stopped)
    (whole_broke s.k s.h c.args.rounds (policy c.args.keeper.now) s.low s.within c.in_ok-end.end c.ask_all.new.row
    against c.shown.result.now is (record { after = last; refusal = m.0 }) asked refused (policy c.ask_all.new.keeper) led)

pub returns-clause-ran : goal.returns-clause-ran
returns-clause-ran g c =
    let s = c.args.challenge in
    let policy = g.P.Policy.policy in
    let r = c.in_ok-end.ensures in
    let totals = c.count-totals.ensures.value in
    let asked = asked_is _ s.k s.h c.args.rounds totals in
    let against = rw asked at r.against in
    let led = rw asked at r.led in
    let is = c.shown.ensures.value ∙ led [] in
    let m = rw c.in_ok-map_err.was at (mapped c.accept.result c.map_err.result _ c.map_err.ensures.cases) in
    let kept = rw m at c.accept.ensures.kept in
    whole_ran s.k s.h c.args.rounds (policy c.args.keeper.now) s.low s.within c.in_ok-end.end c.ask_all.new.row
    against c.shown.result.now is kept (policy c.ask_all.new.keeper) led _ (search (rules, totals))
