use Rattle.std.proofs.Common.{◌+◌}
use Rattle.recency.specs.Row.{count}
use Rattle.recency.proofs.Free.{next_ready, filled}
use Rattle.recency.proofs.Served.{base_head, base_first}
use Rattle.recency.proofs.uses.fill.Goals as goal

pub admit-requires-clause-head : goal.admit-requires-clause-head
admit-requires-clause-head c =
    let k = c.args.k in
    let row = c.args.row.now in
    base_head k row _ (count row + 1) _ c.args.page (next_ready k row c.requires.sound c.requires.room)

pub admit-requires-clause-first : goal.admit-requires-clause-first
admit-requires-clause-first c =
    let k = c.args.k in
    let row = c.args.row.now in
    base_first k row _ (count row + 1) _ c.args.page (next_ready k row c.requires.sound c.requires.room)

pub returns : goal.returns
returns c =
    let s = filled c.args.k c.args.row.now c.requires.sound c.requires.room c.args.page c.requires.absent in
    rw c.admit.ensures.after (record { after = s.after; sound = s.sound; beyond = s.beyond })
