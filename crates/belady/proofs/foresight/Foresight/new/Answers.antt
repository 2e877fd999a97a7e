use Rattle.belady.proofs.Keeping.{kept_none}
use Rattle.belady.proofs.foresight.Foresight.new.Goals as goal

pub returns-clause-ready : goal.returns-clause-ready
returns-clause-ready c = λ trace. kept_none _ trace _ _ c.args.capacity.some c.args.capacity.most
