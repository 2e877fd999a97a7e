use Rattle.paging.proofs.Room.{few_pages}
use Rattle.paging.proofs.few_pages_stands.Goals as goal

pub returns : goal.returns
returns c = few_pages
