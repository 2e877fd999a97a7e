use Rattle.runs.proofs.Begun.{begun_against, run_proper}
use Rattle.runs.proofs.Mapped.{mapped}
use Rattle.runs.proofs.whole.run.Goals as goal

pub run_on-requires : goal.run_on-requires
run_on-requires g c =
    let m = rw c.in_ok-challenge.was at (mapped c.begin.result c.map_err.result _ c.map_err.ensures.cases) in
    let b = rw m at c.begin.ensures.cases in
    record { begun = begun_against c.args.k c.args.h (g.P.Policy.policy c.args.keeper.now) c.args.row.now c.in_ok-challenge.challenge b }

pub returns-clause-proper : goal.returns-clause-proper
returns-clause-proper g c =
    let policy = g.P.Policy.policy in
    let m = rw c.in_ok-challenge.was at (mapped c.begin.result c.map_err.result _ c.map_err.ensures.cases) in
    let b = rw m at c.begin.ensures.cases in
    λ _ p few.
    run_proper c.args.k c.args.h (policy c.args.keeper.now) c.args.row.now c.in_ok-challenge.challenge b c.args.rounds
    c.run_on.new.row (policy c.run_on.new.keeper) c.run_on.result c.run_on.ensures.broke p few
