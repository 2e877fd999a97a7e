use Rattle.std.proofs.Common.{arith}
use Rattle.day.proofs.Turned.{emptied}
use Rattle.day.proofs.pieces.empty.Goals as goal

pub returns-clause-ready : goal.returns-clause-ready
returns-clause-ready c m fits = emptied c.args.cache.now c.args.k m (omega arith) fits
