use Rattle.recency.proofs.Freed.{renews}
use Rattle.recency.proofs.uses.renew.Goals as goal

pub forget-requires : goal.forget-requires
forget-requires c =
    let r = renews c.args.k.places c.args.row.now c.requires.sound c.args.slot c.requires.low c.requires.high c.args.page in
    record { slot_within = r.start; lead_within = r.lead; behind_within = r.behind }

pub unlink-requires : goal.unlink-requires
unlink-requires c =
    let r = renews c.args.k.places c.args.row.now c.requires.sound c.args.slot c.requires.low c.requires.high c.args.page in
    rw c.forget.ensures.after (record { linked = record { slot = r.slot; next = r.next; prev = r.prev } })

pub admit-requires : goal.admit-requires
admit-requires c =
    let r = renews c.args.k.places c.args.row.now c.requires.sound c.args.slot c.requires.low c.requires.high c.args.page in
    rw (c.unlink.ensures.after, c.forget.ensures.after) (record { long = r.long; inside = r.inside; head = r.head; first = r.first })
