use Rattle.paging.proofs.Counts.{exact_counts}
use Rattle.paging.proofs.lower_bound.exact_counts_stands.Goals as goal

pub returns : goal.returns
returns c = exact_counts
