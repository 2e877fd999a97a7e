use Rattle.std.proofs.Common.{rules, ◌≡◌, [], refl, ap, ◌∙◌}
use Rattle.std.proofs.lemmas.Result.{err_from_is_err_and}
use Rattle.runs.proofs.Mapped.{mapped}
use Rattle.runs.proofs.Against.{against_more, led_none, led_at, halted, beyond_more}
use Rattle.runs.proofs.whole.ask_all.Goals as goal

pub loop-n-init : goal.loop-n-init
loop-n-init g c =
    (c.requires.begun, led_none c.args.challenge.k c.args.challenge.h (g.P.Policy.policy c.args.keeper.now), refl, refl)

pub returns-in_err-challenge-clause-halted : goal.returns-in_err-challenge-clause-halted
returns-in_err-challenge-clause-halted g c =
    let d = c.in_err-challenge.field-0.0 in
    let m = rw c.in_err-challenge.was at (mapped c.ask.result c.map_err.result _ c.map_err.ensures.cases) in
    let is : d ≡ record { after = c.loop-n.n-counter; refusal = m.0 } = search rules in
    let p = err_from_is_err_and c.from_residual.result c.from_residual.ensures.1 in
    let refused = rw m.1 at c.ask.ensures.refused in
    let same = rw m.1 at c.ask.ensures.same in
    let inv = c.loop-n.invariant in
    let policy = g.P.Policy.policy in
    let k = c.args.challenge.k in
    rw (p.1, p.2, is)
    (halted k c.args.challenge.h (policy c.args.keeper.now) c.loop-n.n-counter c.loop-n.challenge c.loop-n.row inv.0
    (policy c.loop-n.keeper) inv.1 m.0 refused c.ask.new.row same.0 (policy c.ask.new.keeper) (ap policy same.1))

pub loop-n-preserved : goal.loop-n-preserved
loop-n-preserved g c =
    let inv = c.loop-n.invariant in
    let r = c.ask.ensures in
    let m = rw c.in_ok-challenge.was at (mapped c.ask.result c.map_err.result _ c.map_err.ensures.cases) in
    let stepped = rw m at r.stepped in
    let served = rw m at r.served in
    let k = c.args.challenge.k in
    let h = c.args.challenge.h in
    let first = g.P.Policy.policy c.args.keeper.now in
    let now = g.P.Policy.policy c.loop-n.keeper in
    let n = c.loop-n.n-counter in
    let was = c.loop-n.challenge in
    let row = c.loop-n.row in
    let is : now [] ≡ _ = inv.1 [] in (
      against_more k h first n was row inv.0 (now []) is c.in_ok-challenge.challenge c.ask.new.row stepped c.ask.auto.row,
      led_at k h first n was row inv.0 (now []) is c.in_ok-challenge.challenge c.ask.new.row stepped now (g.P.Policy.policy c.ask.new.keeper) inv.1 served,
      beyond_more k h first n was row inv.0 (now []) c.in_ok-challenge.challenge c.ask.new.row stepped ∙ inv.2,
      c.ask.auto.row ∙ inv.3,
    )
