use Rattle.std.proofs.Common.{◌≡◌, ◌≤◌, length, take, drop}
use Rattle.paging.specs.Adversary.{once_each}
use Rattle.adversary.specs.Rules.{Marks}
use Rattle.adversary.proofs.challenge.Challenge.over.Given as goal

-- what is noted and what is left of the round's list give the whole
abbrev pub invariant-loop-page : goal.invariant-loop-page
invariant-loop-page l =
    (l.n ≤ l.self.h) × (length l.picked ≡ length l.initial.picked) × (length l.seen ≡ length l.initial.seen)
    × Marks l.self.k l.seen (take l.n l.picked) × (drop l.self.k l.picked ≡ drop l.self.k l.initial.picked)
    × (take l.self.h (once_each (take l.n l.picked) (drop l.page-index l.page-items)) ≡ take l.self.h (once_each (take l.initial.n l.initial.picked) l.page-items))
