-- A turn writes the request at i, which is that of the group at i.
use Rattle.std.proofs.Common.{arith}
use Rattle.std.proofs.lemmas.Grind.{common_steps}
use Rattle.std.proofs.lemmas.List.{get_or-take}
use Rattle.trace.proofs.Groups.{length_requests, request_at, filled_more}
use Rattle.trace.proofs.requests.decode.Goals as goal

pub loop-i-preserved : goal.loop-i-preserved
loop-i-preserved c = grind (arith, common_steps, length_requests, request_at, filled_more, get_or-take)
