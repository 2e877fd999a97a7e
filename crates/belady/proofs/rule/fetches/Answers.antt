use Rattle.std.proofs.Common.{◌∙◌, arith}
use Rattle.std.proofs.lemmas.Result.{err_from_is_err_and}
use Rattle.paging.proofs.Belady.{fewest}
use Rattle.belady.proofs.Sizes.{capacity_told, counted_short, counted_none}
use Rattle.belady.proofs.Totals.{fetched_none, fetched_here, fetched_more, fetched_all}
use Rattle.belady.proofs.rule.fetches.Goals as goal
use Rattle.belady.proofs.rule.fetches.Goals.{then-request, else-request}

pub returns-in_err-capacity-clause-refused : goal.returns-in_err-capacity-clause-refused
returns-in_err-capacity-clause-refused c =
    let p = err_from_is_err_and c.from_residual.result c.from_residual.ensures.1 in
    let told = capacity_told (λ k. k.places) c.args.h c.new.result _ c.new.ensures.cases c.in_err-capacity.ensures.value in
    rw (p.1, p.2, told.1) (counted_none c.args.h c.args.trace.now (omega arith) told.0)

pub loop-i-init : goal.loop-i-init
loop-i-init c =
    let new = c.new-cache.ensures in
    let told = capacity_told (λ k. k.places) c.args.h c.new.result _ c.new.ensures.cases c.in_ok-capacity.ensures.value in
    record { ready = new.ready c.args.trace.now; places = new.places ∙ told; so_far = fetched_none _ _ _ new.none }

pub loop-i-preserved : goal.loop-i-preserved
loop-i-preserved c =
    let inv = c.loop-i.invariant in
    let r = c.request.ensures in
    let places = r.places ∙ inv.places in
    elim c.if-request.branch [
      | then-request w ↦
          let more = fetched_more _ _ _ _ _ inv.so_far c.loop-i-test.true _ inv.places _ r.after _ r.value w.if-request.true in
          rw w.fetched-is (record { ready = r.ready; places = places; so_far = more })
      | else-request w ↦
          let here = fetched_here _ _ _ _ _ inv.so_far c.loop-i-test.true _ inv.places _ r.after _ r.value w.if-request.false in
          rw w.fetched-is (record { ready = r.ready; places = places; so_far = here })
    ]

pub returns : goal.returns
returns c =
    let told = capacity_told (λ k. k.places) c.args.h c.new.result _ c.new.ensures.cases c.in_ok-capacity.ensures.value in
    let all = fetched_all _ _ _ _ _ c.loop-i.invariant.so_far (omega arith) in
    record { counted = (all, rw all (fewest c.args.h _ (omega arith))); refused = counted_short c.args.h c.args.trace.now (omega arith) (omega arith) (omega arith) }
