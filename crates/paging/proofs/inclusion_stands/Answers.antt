use Rattle.paging.proofs.Fronts.{inclusion}
use Rattle.paging.proofs.inclusion_stands.Goals as goal

pub returns : goal.returns
returns c = inclusion
