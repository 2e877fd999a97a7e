use Rattle.summary.proofs.Reading.{known_small}
use Rattle.summary.proofs.reads.Report.fewest.Goals as goal

pub returns-clause-small : goal.returns-clause-small
returns-clause-small c = known_small _ _ _ c.args.self.reports c.args.c.places c.args.c.some c.args.c.most
