use Rattle.paging.proofs.Room.{retained}
use Rattle.paging.proofs.retained_stands.Goals as goal

pub returns : goal.returns
returns c = retained
