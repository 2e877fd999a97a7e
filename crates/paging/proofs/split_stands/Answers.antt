use Rattle.paging.proofs.Fronts.{split}
use Rattle.paging.proofs.split_stands.Goals as goal

pub returns : goal.returns
returns c = split
