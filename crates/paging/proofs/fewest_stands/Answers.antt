use Rattle.paging.proofs.Belady.{fewest}
use Rattle.paging.proofs.fewest_stands.Goals as goal

pub returns : goal.returns
returns c = fewest
