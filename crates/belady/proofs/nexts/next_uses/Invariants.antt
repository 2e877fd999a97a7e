use Rattle.std.proofs.Common.{◌≡◌, ℕ, ◌<◌, get_or}
use Rattle.belady.specs.Ahead.{next_at}
use Rattle.belady.proofs.nexts.next_uses.Given as goal

abbrev pub invariant-loop-i : goal.invariant-loop-i
invariant-loop-i l = (k : ℕ) → k < l.i → get_or l.at-items k 0 ≡ next_at l.trace k
