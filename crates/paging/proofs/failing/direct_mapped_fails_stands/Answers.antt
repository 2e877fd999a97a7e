use Rattle.paging.proofs.Failures.{direct_mapped_fails}
use Rattle.paging.proofs.failing.direct_mapped_fails_stands.Goals as goal

pub returns : goal.returns
returns c = direct_mapped_fails
