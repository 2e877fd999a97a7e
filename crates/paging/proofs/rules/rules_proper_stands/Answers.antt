use Rattle.paging.proofs.Fewest.{rules_proper}
use Rattle.paging.proofs.rules.rules_proper_stands.Goals as goal

pub returns : goal.returns
returns c = rules_proper
