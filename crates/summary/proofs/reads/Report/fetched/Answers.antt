use Rattle.summary.proofs.Reading.{house_small}
use Rattle.summary.proofs.reads.Report.fetched.Goals as goal

pub returns-clause-small : goal.returns-clause-small
returns-clause-small c = house_small _ _ _ c.args.self.reports c.args.c.places c.args.c.some c.args.c.most
