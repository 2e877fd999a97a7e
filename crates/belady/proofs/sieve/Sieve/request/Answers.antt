use Rattle.std.proofs.Common.{arith}
use Rattle.belady.proofs.Outcomes.{counter_fits, found, pushed, dropped}
use Rattle.belady.proofs.sieve.Sieve.request.Goals as goal
use Rattle.belady.proofs.sieve.Sieve.request.Goals.{in-Some, in-None, in-None+else-self-hits}

pub overflow_add-hits : goal.overflow_add-hits
overflow_add-hits c =
    let at = rw c.in-Some.is at c.sift-at.ensures.after in
    omega (arith, counter_fits _ _ _ _ _ _ c.requires.row c.requires.within c.in-Some.at (omega arith))

pub returns-clause-row : goal.returns-clause-row
returns-clause-row c =
    let row = c.requires.row in
    let after = c.sift-at.ensures.after in
    elim c.match-at.branch [
      | in-Some w ↦
          rw (w.self-is, w.hits-is) (found _ _ _ _ _ _ row c.requires.within _ c.requires.next _ _ _ _ c.requires.some c.requires.few (omega arith) (omega arith)
          _ (rw w.in-Some.is at after))
      | in-None w ↦
          rw (w.self-is, w.hits-is) (pushed _ _ _ _ _ _ row c.requires.within _ c.requires.next _ _ _ _ c.requires.some c.requires.few (omega arith) (omega arith)
          (rw w.in-None.is at after) w.if-self-hits.true)
      | in-None+else-self-hits w ↦
          rw (w.self-is, w.hits-is) (dropped _ _ _ _ _ _ row c.requires.within _ c.requires.next _ _ _ _ c.requires.some c.requires.few (omega arith) (omega arith)
          (rw w.in-None.is at after) w.if-self-hits.false)
    ]
