use Rattle.std.proofs.Common.{◌≡◌, ℕ, ◌+◌, ◌<◌, get_or}
use Rattle.traces.specs.Kind.{page_of}
use Rattle.traces.specs.Random.{after_steps}
use Rattle.traces.proofs.kind.Kind.fill.Given as goal

abbrev pub invariant-loop-page : goal.invariant-loop-page
invariant-loop-page l = record {
  below : l.last < l.pages;
  last : l.last ≡ page_of l.self l.pages l.page-index;
  steps : l.random ≡ after_steps l.page-index (record { state = l.pages; increment = 1442695040888963407 });
  made : (k : ℕ) → k < l.page-index → get_or l.trace k 0 ≡ page_of l.self l.pages (k + 1);
}
