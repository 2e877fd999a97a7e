use Rattle.std.proofs.Common.{◌≡◌, ◌+◌, ◌*◌, length, drop}
use Rattle.adversary.specs.Runs.{Led}
use Rattle.runs.specs.Runs.{played, Against}
use Rattle.runs.proofs.whole.ask_all.Given as goal

-- n requests were played, and the policy was given them
abbrev pub invariant-loop-n : goal.invariant-loop-n
invariant-loop-n g l =
    Against l.initial.challenge.k l.initial.challenge.h (g.P.Policy.policy l.initial.keeper) l.n-counter l.challenge l.row
    × Led (g.P.Policy.policy l.initial.keeper) (played l.initial.challenge.k l.initial.challenge.h (g.P.Policy.policy l.initial.keeper) l.n-counter).history (g.P.Policy.policy l.keeper)
    × (drop (3 * l.initial.challenge.k + 1) l.row ≡ drop (3 * l.initial.challenge.k + 1) l.initial.row)
    × (length l.row ≡ length l.initial.row)
