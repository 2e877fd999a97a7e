use Rattle.recency.proofs.Seeks.{searching_first, searching_next, seeking_next, none_left, some_left}
use Rattle.recency.proofs.chains.probe.Goals as goal

pub loop-slot-init : goal.loop-slot-init
loop-slot-init c = searching_first c.args.k.places c.args.row.now c.args.page c.requires.sound c.door_of.result c.door_of.ensures.value

pub returns-then-row-slot : goal.returns-then-row-slot
returns-then-row-slot c =
    let b = some_left c.args.k.places c.args.row.now c.args.page c.loop-slot.slot c.loop-slot.invariant.0 c.loop-slot-test.true in
    record { cases = (b.0, b.1, c.if-row-slot.true) }

pub loop-slot-preserved : goal.loop-slot-preserved
loop-slot-preserved c =
    searching_next c.args.k.places c.args.row.now c.args.page c.requires.sound c.loop-slot.slot c.loop-slot.invariant.0 c.loop-slot-test.true c.if-row-slot.false

pub loop-slot-smaller : goal.loop-slot-smaller
loop-slot-smaller c =
    (seeking_next c.args.k.places c.args.row.now c.args.page c.loop-slot.slot c.loop-slot.invariant.0 c.loop-slot-test.true c.if-row-slot.false).fewer

pub returns : goal.returns
returns c =
    record { cases = none_left c.args.k.places c.args.row.now c.args.page c.loop-slot.slot c.loop-slot.invariant.0 c.loop-slot-test.false }
