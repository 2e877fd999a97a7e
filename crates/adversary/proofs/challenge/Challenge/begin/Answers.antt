use Rattle.std.proofs.Common.{refl, arith}
use Rattle.std.proofs.lemmas.Bool.Decides.{nat_tests}
use Rattle.paging.specs.Stepwise.{start}
use Rattle.adversary.proofs.challenge.Challenge.begin.Goals as goal

pub returns-clause-cases : goal.returns-clause-cases
unfolding start
returns-clause-cases c =
    let long = rw c.in_ok-len.ensures.ok_part at c.row_len.ensures.cases in
    record { fits = grind (arith, nat_tests); long = omega arith; k_is = refl; h_is = refl; position = refl; asked = refl; shown = refl }
