use Rattle.std.proofs.Common.{refl, arith}
use Rattle.picture.proofs.Joined.{reached_first, fetches_more, fetches_done}
use Rattle.picture.proofs.scales.Scale.tell_fetches.Goals as goal

pub loop-n-init : goal.loop-n-init
loop-n-init c = reached_first _ _ _ 0 c.args.self.apart _ refl

pub loop-n-preserved : goal.loop-n-preserved
loop-n-preserved c =
    let s = c.args.self in
    fetches_more s.top s.apart s.some_apart _ _ _ c.loop-n.invariant c.height-y.result _ c.loop-n-test.true c.height-y.ensures.value c.in_ok-write.ensures.bytes

pub returns : goal.returns
returns c =
    let s = c.args.self in
    record { lines = λ ok. fetches_done s.top s.apart s.some_apart _ _ _ c.loop-n.invariant c.loop-n-test.false }

pub returns-in_ok-write : goal.returns-in_ok-write
returns-in_ok-write c =
    let s = c.args.self in
    let last = fetches_more s.top s.apart s.some_apart _ _ _ c.loop-n.invariant c.height-y.result _ c.loop-n-test.true c.height-y.ensures.value
    c.in_ok-write.ensures.bytes in
    record { lines = λ ok. fetches_done s.top s.apart s.some_apart _ _ _ last (omega arith) }
