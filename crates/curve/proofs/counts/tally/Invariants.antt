use Rattle.std.proofs.Common.{◌≡◌, length}
use Rattle.paging.specs.Lru.{lru_fetches}
use Rattle.paging.proofs.Tallies.{Tallied}
use Rattle.curve.specs.Stacked.{stacked}
use Rattle.curve.proofs.counts.tally.Given as goal

abbrev pub invariant-loop-page : goal.invariant-loop-page
invariant-loop-page l = record { places : l.stack.capacity.places ≡ length l.hits; so_far : Tallied lru_fetches l.hits l.page-index l.trace (stacked l.stack) }
