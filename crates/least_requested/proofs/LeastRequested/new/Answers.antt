use Rattle.std.proofs.Common.{◌≡◌, refl, arith}
use Rattle.paging.specs.Lists.{distinct}
use Rattle.least_requested.specs.Counting.{paired}
use Rattle.least_requested.proofs.Capped.{counting_does}
use Rattle.least_requested.proofs.LeastRequested.new.Goals as goal

pub invariant_of-result-clause-once : goal.invariant_of-result-clause-once
unfolding distinct
invariant_of-result-clause-once c = refl

pub returns-clause-cases : goal.returns-clause-cases
unfolding paired
returns-clause-cases c =
    let is : c.in_ok-capacity.capacity.places ≡ c.args.k = rw c.in_ok-capacity.ensures.ok_part at c.new.ensures.cases in
    rw is (counting_does c.args.k (omega (arith, is)))
