use Rattle.std.proofs.Common.{◌+◌, get_or, refl, arith}
use Rattle.std.proofs.lemmas.List.{length-set}
use Rattle.curve.proofs.Passes.{pass_all, pass_absent, pass_found, pass_fits}
use Rattle.curve.proofs.counts.tally.Goals as goal
use Rattle.curve.proofs.counts.tally.Goals.{in-Some, in_default}

pub overflow_add-hits : goal.overflow_add-hits
overflow_add-hits c =
    let inv = c.loop-page.invariant in
    let fits = pass_fits _ _ _ _ _ inv.so_far c.loop-page-test.true refl _ inv.places _ c.request.ensures.after c.in-Some.at c.in-Some.ensures.finds in
    omega arith

pub loop-page-preserved : goal.loop-page-preserved
loop-page-preserved c =
    let inv = c.loop-page.invariant in
    let lt = c.loop-page-test.true in
    let r = c.request.ensures in
    elim c.match-request.branch [
      | in-Some w ↦
          let d = w.in-Some.at in
          let len = length-set c.loop-page.hits d (get_or c.loop-page.hits d 0 + 1) in
          rw w.hits-is (record { places = omega arith; so_far = pass_found _ _ _ _ _ inv.so_far lt refl _ inv.places _ r.after d w.in-Some.ensures.finds })
      | in_default w ↦
          rw w.hits-is (record { places = omega arith; so_far = pass_absent _ _ _ _ _ inv.so_far lt refl _ inv.places _ r.after w.in_default.ensures.finds })
    ]

pub returns : goal.returns
returns c = record { after = pass_all _ _ _ _ c.loop-page.invariant.so_far (omega arith) }
