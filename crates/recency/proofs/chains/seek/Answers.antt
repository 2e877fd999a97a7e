use Rattle.std.proofs.Common.{◌≢◌, ap, ◌∙◌}
use Rattle.recency.specs.Row.{held}
use Rattle.recency.proofs.Seeks.{searching_first, searching_next, seeking_next, none_left, some_left}
use Rattle.recency.proofs.chains.seek.Goals as goal

pub loop-slot-init : goal.loop-slot-init
loop-slot-init c = searching_first c.args.k.places c.args.row.now c.args.page c.requires.sound c.door_of.result c.door_of.ensures.value

-- in slot 0 the search would have ended
pub loop-slot-preserved : goal.loop-slot-preserved
loop-slot-preserved c =
    let some : c.loop-slot.slot ≢ 0 = λ e. c.loop-slot-test.true (ap (held c.args.row.now) e ∙ c.requires.sought) in
    searching_next c.args.k.places c.args.row.now c.args.page c.requires.sound c.loop-slot.slot c.loop-slot.invariant.0 some c.loop-slot-test.true

pub loop-slot-smaller : goal.loop-slot-smaller
loop-slot-smaller c =
    let some : c.loop-slot.slot ≢ 0 = λ e. c.loop-slot-test.true (ap (held c.args.row.now) e ∙ c.requires.sought) in
    (seeking_next c.args.k.places c.args.row.now c.args.page c.loop-slot.slot c.loop-slot.invariant.0 some c.loop-slot-test.true).fewer

pub returns-then-slot-eq0 : goal.returns-then-slot-eq0
returns-then-slot-eq0 c =
    record { cases = none_left c.args.k.places c.args.row.now c.args.page c.loop-slot.slot c.loop-slot.invariant.0 c.if-slot-eq0.true }

pub returns-else-slot-eq0 : goal.returns-else-slot-eq0
returns-else-slot-eq0 c =
    let b = some_left c.args.k.places c.args.row.now c.args.page c.loop-slot.slot c.loop-slot.invariant.0 c.if-slot-eq0.false in
    record { cases = (b.0, b.1, c.loop-slot-test.false) }
