use Rattle.paging.proofs.Failures.{last_requested_fails}
use Rattle.paging.proofs.failing.last_requested_fails_stands.Goals as goal

pub returns : goal.returns
returns c = last_requested_fails
