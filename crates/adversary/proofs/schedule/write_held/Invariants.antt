use Rattle.std.proofs.Common.{◌≡◌, ◌+◌, ◌≤◌, length}
use Rattle.adversary.proofs.Written.{Writing}
use Rattle.adversary.proofs.schedule.write_held.Given as goal

abbrev pub invariant-loop-other : goal.invariant-loop-other
invariant-loop-other l =
    (l.n ≤ l.other-index + 1) × (length l.out ≡ length l.initial.out) × Writing l.list l.page l.initial.out l.other-index l.n l.out
