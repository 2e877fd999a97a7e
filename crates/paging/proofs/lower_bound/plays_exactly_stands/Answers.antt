use Rattle.paging.proofs.Played.{plays_exactly}
use Rattle.paging.proofs.lower_bound.plays_exactly_stands.Goals as goal

pub returns : goal.returns
returns c = plays_exactly
