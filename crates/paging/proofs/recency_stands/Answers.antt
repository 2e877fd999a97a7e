use Rattle.paging.proofs.Recency.{recency}
use Rattle.paging.proofs.recency_stands.Goals as goal

pub returns : goal.returns
returns c = recency
