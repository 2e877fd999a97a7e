use Rattle.std.proofs.Common.{◌≡◌, ◌+◌, ◌/◌, refl, arith}
use Rattle.picture.proofs.Joined.{reached_first, places_more, places_done}
use Rattle.picture.proofs.scales.Scale.tell_places.Goals as goal

pub loop-c-init : goal.loop-c-init
loop-c-init c = reached_first _ _ _ c.step-apart.result c.step-apart.result _ refl

pub middle-x-requires : goal.middle-x-requires
middle-x-requires c =
    let number = c.loop-c.invariant.number in
    let low = c.step-apart.ensures.low in
    record { some = omega (arith, number, low); few = omega arith }

pub loop-c-preserved : goal.loop-c-preserved
loop-c-preserved c =
    let s = c.step-apart in
    places_more c.args.self.places s.result s.ensures.low _ _ _ c.loop-c.invariant c.middle-x.result _ c.loop-c-test.true c.middle-x.ensures.value
    c.in_ok-write.ensures.bytes

pub returns : goal.returns
returns c =
    let s = c.step-apart in
    let half : c.div_ceil.result ≡ (c.args.self.places + 1) / 2 = omega arith in
    record { lines = λ ok. rw (← half, ← s.ensures.value) (places_done c.args.self.places s.result s.ensures.low _ _ _ c.loop-c.invariant c.loop-c-test.false) }

pub returns-in_ok-write : goal.returns-in_ok-write
returns-in_ok-write c =
    let s = c.step-apart in
    let half : c.div_ceil.result ≡ (c.args.self.places + 1) / 2 = omega arith in
    let last = places_more c.args.self.places s.result s.ensures.low _ _ _ c.loop-c.invariant c.middle-x.result _ c.loop-c-test.true c.middle-x.ensures.value
    c.in_ok-write.ensures.bytes in
    record { lines = λ ok. rw (← half, ← s.ensures.value) (places_done c.args.self.places s.result s.ensures.low _ _ _ last (omega arith)) }
