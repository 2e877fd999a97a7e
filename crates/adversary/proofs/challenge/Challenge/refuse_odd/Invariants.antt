use Rattle.std.proofs.Common.{◌≡◌, [], ◌∷◌, length, take, drop}
use Rattle.recency.specs.Row as recent
use Rattle.adversary.specs.Rules.{first_odd, Marks}
use Rattle.adversary.proofs.challenge.Challenge.refuse_odd.Given as goal

-- the pages passed are marked, and what is left decides
abbrev pub invariant-loop-i : goal.invariant-loop-i
invariant-loop-i l =
    Marks l.self.k l.seen (take l.i l.shown)
    × (first_odd l.i (recent.pages l.seen) (l.self.last ∷ recent.pages l.before) (drop l.i l.shown)
    ≡ first_odd 0 [] (l.self.last ∷ recent.pages l.before) l.shown)
    × (length l.seen ≡ length l.initial.seen)
