use Rattle.paging.proofs.Competitive.{competitive}
use Rattle.paging.proofs.competitive_stands.Goals as goal

pub returns : goal.returns
returns c = competitive
