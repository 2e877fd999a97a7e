use Rattle.paging.proofs.Belady.{belady_feasible}
use Rattle.paging.proofs.belady_feasible_stands.Goals as goal

pub returns : goal.returns
returns c = belady_feasible
