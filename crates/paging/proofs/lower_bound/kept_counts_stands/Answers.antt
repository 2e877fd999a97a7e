use Rattle.paging.proofs.Guards.{kept_counts}
use Rattle.paging.proofs.lower_bound.kept_counts_stands.Goals as goal

pub returns : goal.returns
returns c = kept_counts
