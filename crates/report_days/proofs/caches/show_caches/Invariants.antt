use Rattle.belady.specs.Kept.{Ready}
use Rattle.report_days.proofs.caches.show_caches.Given as goal

abbrev pub invariant-loop-i : goal.invariant-loop-i
invariant-loop-i l = Ready l.trace l.i l.cache
