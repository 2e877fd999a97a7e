use Rattle.recency.specs.Row.{behind}
use Rattle.recency.proofs.Seeks.{Searching, steps}
use Rattle.recency.proofs.chains.seek.Given as goal

abbrev pub invariant-loop-slot : goal.invariant-loop-slot
invariant-loop-slot l = Searching l.fn.k.places l.row l.page l.slot

abbrev pub decreases-loop-slot : goal.decreases-loop-slot
decreases-loop-slot l = steps l.fn.k.places (behind l.row) l.slot
