use Rattle.std.proofs.Common.{◌≡◌, refl, arith}
use Rattle.fifo.proofs.Rules.{fifo_does}
use Rattle.fifo.proofs.Fifo.new.Goals as goal

pub returns-clause-cases : goal.returns-clause-cases
returns-clause-cases c =
    let is : c.in_ok-capacity.capacity.places ≡ c.args.k = rw c.in_ok-capacity.ensures.ok_part at c.new.ensures.cases in
    rw is (fifo_does c.args.k _ (omega (arith, is)) refl)
