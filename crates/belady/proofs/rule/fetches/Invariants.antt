use Rattle.std.proofs.Common.{◌≡◌}
use Rattle.belady.specs.Kept.{held, Ready}
use Rattle.belady.proofs.Totals.{Fetched}
use Rattle.belady.proofs.rule.fetches.Given as goal

abbrev pub invariant-loop-i : goal.invariant-loop-i
invariant-loop-i l =
    record { ready : Ready l.trace l.i l.cache; places : l.cache.capacity.places ≡ l.h; so_far : Fetched l.h l.trace l.i l.fetched (held l.cache) }
