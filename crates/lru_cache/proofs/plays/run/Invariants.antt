use Rattle.std.proofs.Common.{◌≡◌, ◌+◌, ◌*◌, ◌≤◌, length, drop}
use Rattle.recency.specs.Row as recent
use Rattle.recency.specs.Sound.{Sound}
use Rattle.lru_cache.proofs.Runs.{Ran}
use Rattle.lru_cache.proofs.plays.run.Given as goal

abbrev pub invariant-loop-i : goal.invariant-loop-i
invariant-loop-i l =
    Sound l.k l.index
    × Ran l.k l.trace (recent.pages l.initial.index) l.initial.found l.i l.fetches (recent.pages l.index) l.found
    × (drop (9 * l.k + 5) l.index ≡ drop (9 * l.k + 5) l.initial.index)
    × (l.fetches ≤ l.i) × (length l.index ≡ length l.initial.index) × (length l.found ≡ length l.initial.found)
