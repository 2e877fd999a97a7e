use Rattle.paging.proofs.Counts.{no_policy_beats}
use Rattle.paging.proofs.lower_bound.no_policy_beats_stands.Goals as goal

pub returns : goal.returns
returns c = no_policy_beats
