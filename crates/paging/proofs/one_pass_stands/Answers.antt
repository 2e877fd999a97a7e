use Rattle.paging.proofs.Sifted.{one_pass}
use Rattle.paging.proofs.one_pass_stands.Goals as goal

pub returns : goal.returns
returns c = one_pass
