use Rattle.std.proofs.Common.{arith}
use Rattle.belady.proofs.Carried.{carried_none, carried_stays, carried_swaps}
use Rattle.belady.proofs.sifts.sift.Goals as goal
use Rattle.belady.proofs.sifts.sift.Goals.{then-key-keys, else-key-keys}

pub loop-k-init : goal.loop-k-init
loop-k-init c = carried_none _ _ _ _ _ c.requires.within c.requires.keyed

pub loop-k-preserved : goal.loop-k-preserved
loop-k-preserved c =
    let inv = c.loop-k.invariant in
    let apart = c.if-pages-k.false in
    elim c.if-key-keys.branch [
      | then-key-keys w ↦
          let s = carried_swaps _ _ _ _ _ _ _ _ _ inv (omega arith) (omega arith) apart (omega arith) w.if-key-keys.true in
          let a = w.swap.ensures in
          let b = w.swap-then-key-keys.ensures in
          rw (w.pages-is, w.keys-is, w.carry-is, w.key-is, a.x_after, a.y_after, b.x_after, b.y_after) s
      | else-key-keys w ↦
          let s = carried_stays _ _ _ _ _ _ _ _ _ inv (omega arith) (omega arith) apart (omega arith) in
          rw (w.pages-is, w.keys-is, w.carry-is, w.key-is) s
    ]
