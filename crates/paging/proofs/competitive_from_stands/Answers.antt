use Rattle.paging.proofs.Competitive.{competitive_from}
use Rattle.paging.proofs.competitive_from_stands.Goals as goal

pub returns : goal.returns
returns c = competitive_from
