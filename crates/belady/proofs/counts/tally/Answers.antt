use Rattle.std.proofs.Common.{length, refl, arith}
use Rattle.std.proofs.lemmas.List.{length-take}
use Rattle.belady.proofs.Passes.{pass_none, pass_all}
use Rattle.belady.proofs.counts.tally.Goals as goal

pub loop-i-init : goal.loop-i-init
loop-i-init c =
    record { few = omega (arith, c.new-sieve.ensures.len); row = pass_none _ _ _ _ _ c.requires.none c.new-sieve.ensures.len; size = refl }

pub returns : goal.returns
returns c =
    let size = length-take (length c.args.trace.now) c.args.next.now in
    record { after = pass_all _ _ _ _ _ _ c.loop-i.invariant.row (omega arith) }
