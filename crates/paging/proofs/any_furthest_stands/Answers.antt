use Rattle.paging.proofs.Belady.{any_furthest}
use Rattle.paging.proofs.any_furthest_stands.Goals as goal

pub returns : goal.returns
returns c = any_furthest
