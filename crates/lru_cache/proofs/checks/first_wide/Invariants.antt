use Rattle.std.proofs.Common.{◌≡◌, drop}
use Rattle.lru_cache.specs.Rows.{first_wide}
use Rattle.lru_cache.proofs.checks.first_wide.Given as goal

abbrev pub invariant-loop-page : goal.invariant-loop-page
invariant-loop-page l = first_wide (drop l.page-index l.trace) ≡ first_wide l.trace
