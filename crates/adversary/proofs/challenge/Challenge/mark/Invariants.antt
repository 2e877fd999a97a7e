use Rattle.std.proofs.Common.{◌≡◌, length, take}
use Rattle.adversary.specs.Rules.{Marks}
use Rattle.adversary.proofs.challenge.Challenge.mark.Given as goal

abbrev pub invariant-loop-page : goal.invariant-loop-page
invariant-loop-page l = Marks l.self.k l.index (take l.page-index l.pages) × (length l.index ≡ length l.initial.index)
