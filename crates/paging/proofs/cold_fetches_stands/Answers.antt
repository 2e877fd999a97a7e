use Rattle.paging.proofs.Stretches.{cold_fetches}
use Rattle.paging.proofs.cold_fetches_stands.Goals as goal

pub returns : goal.returns
returns c = cold_fetches
