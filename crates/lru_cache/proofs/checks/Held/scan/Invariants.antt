use Rattle.std.proofs.Common.{◌≡◌, ◌+◌, [], length, drop}
use Rattle.recency.specs.Row as recent
use Rattle.recency.specs.Sound.{Sound}
use Rattle.lru_cache.specs.Rows.{first_bad}
use Rattle.lru_cache.proofs.checks.Held.scan.Given as goal

-- the index holds the pages passed, and what is left decides
abbrev pub invariant-loop-i : goal.invariant-loop-i
invariant-loop-i l =
    Sound l.self.capacity.places l.seen × (length (recent.pages l.seen) ≡ l.i)
    × (first_bad (2 + l.i) (recent.pages l.seen) (drop l.i l.self.pages.now) ≡ first_bad 2 [] l.self.pages.now)
