use Rattle.paging.proofs.Bounds.{stays_bounded}
use Rattle.paging.proofs.lower_bound.stays_bounded_stands.Goals as goal

pub returns : goal.returns
returns c = stays_bounded
