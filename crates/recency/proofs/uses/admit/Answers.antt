use Rattle.std.proofs.Common.{◌≤◌, get_or, arith}
use Rattle.recency.proofs.Moves.{put_first}
use Rattle.recency.proofs.uses.admit.Goals as goal

-- where the chain begins is as it was
pub enter-requires-clause-first_within : goal.enter-requires-clause-first_within
enter-requires-clause-first_within c =
    let few : get_or c.args.row.now c.door_of.result 0 ≤ c.args.k.places = rw c.door_of.ensures.value c.requires.first in
    let door = c.door_of.ensures.value in
    rw c.push.ensures.after
    (put_first c.args.k.places c.args.row.now c.args.slot c.args.page c.door_of.result c.requires.long c.requires.inside c.requires.head (omega arith) few)
