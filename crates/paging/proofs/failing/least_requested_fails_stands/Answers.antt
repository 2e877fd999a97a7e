use Rattle.paging.proofs.Entries.{least_requested_fails}
use Rattle.paging.proofs.failing.least_requested_fails_stands.Goals as goal

pub returns : goal.returns
returns c = least_requested_fails
