use Rattle.std.proofs.Common.{arith}
use Rattle.std.proofs.lemmas.Bool.Decides.{nat_tests}
use Rattle.paging.specs.Lists.{has}
use Rattle.adversary.proofs.challenge.Challenge.allows.Goals as goal

pub returns-then-page-self : goal.returns-then-page-self
unfolding has
returns-then-page-self c = record { value = grind (arith, nat_tests) }

pub returns-else-page-self : goal.returns-else-page-self
unfolding has
returns-else-page-self c = let v = c.contains.ensures.value in let n = c.if-page-self.false in record { value = grind (arith, nat_tests) }
