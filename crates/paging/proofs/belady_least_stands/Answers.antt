use Rattle.paging.proofs.Belady.{belady_least}
use Rattle.paging.proofs.belady_least_stands.Goals as goal

pub returns : goal.returns
returns c = belady_least
