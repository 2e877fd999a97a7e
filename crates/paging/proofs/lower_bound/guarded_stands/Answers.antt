use Rattle.paging.proofs.Guards.{obeys_kept, guarded_obeys, guarded_same}
use Rattle.paging.proofs.lower_bound.guarded_stands.Goals as goal

pub returns : goal.returns
returns c = record { kept = obeys_kept; obeys = guarded_obeys; same = guarded_same }
