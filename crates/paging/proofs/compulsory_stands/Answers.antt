use Rattle.paging.proofs.Stretches.{compulsory}
use Rattle.paging.proofs.compulsory_stands.Goals as goal

pub returns : goal.returns
returns c = compulsory
