use Rattle.paging.proofs.Distance.{stack_distance}
use Rattle.paging.proofs.stack_distance_stands.Goals as goal

pub returns : goal.returns
returns c = stack_distance
