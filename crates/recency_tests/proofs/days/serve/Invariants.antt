use Rattle.recency.specs.Sound.{Sound}
use Rattle.recency_tests.proofs.days.serve.Given as goal

abbrev pub invariant-loop-page : goal.invariant-loop-page
invariant-loop-page l = Sound l.k l.row
