use Rattle.std.proofs.Common.{rules}
use Rattle.std.proofs.lemmas.Slice.{overwrites}
use Rattle.adversary.proofs.challenge.Challenge.store.Goals as goal

pub returns-clause-beyond : goal.returns-clause-beyond
returns-clause-beyond c = search (rules, overwrites)
