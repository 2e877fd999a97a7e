-- Policies of which is known only that they kept the rules in the run at hand, and what is claimed of them.
-- Assumes nothing: these are definitions.
--     kept k policy history        along history the policy began empty and kept the rules of a cache of k places
--     guarded k policy history     what the policy shows where that keeps the rules, and only the page requested otherwise
--     ObeysKept                   a policy that obeys the rules keeps them along every history
--     GuardedObeys                a guarded policy obeys the rules, whatever the policy does
--     GuardedSame                 where a policy kept the rules its guarded one shows the same
--     KeptCounts                  a policy that kept the rules against the adversary is counted out as one that obeys them
use Rattle.std.specs.Prelude.{◌≡◌, ℕ, ◌<◌, ◌≤◌, Bool, true, cond, ◌&&◌, List, [], ◌∷◌, length, nat_le}
use Rattle.paging.specs.Adversary.{adversary}
use Rattle.paging.specs.LowerBound.{Counted}
use Rattle.paging.specs.Policies.{Policy, history_after, keeps, Obeys}

unfoldable pub kept : ℕ → Policy → List ℕ → Bool
kept k policy [] = nat_le (length (policy [])) 0
kept k policy (page ∷ history) = keeps k (policy history) page (policy (page ∷ history)) && kept k policy history

unfoldable pub guarded : ℕ → Policy → Policy
guarded k policy [] = []
guarded k policy (page ∷ history) =
    cond (keeps k (guarded k policy history) page (policy (page ∷ history))) (policy (page ∷ history)) (page ∷ [])

abbrev pub ObeysKept : Type 0
ObeysKept = (k : ℕ) (policy : Policy) (history : List ℕ) → Obeys k policy → kept k policy history ≡ true

abbrev pub GuardedObeys : Type 0
GuardedObeys = (k : ℕ) (policy : Policy) → 0 < k → Obeys k (guarded k policy)

abbrev pub GuardedSame : Type 0
GuardedSame = (k : ℕ) (policy : Policy) (history : List ℕ) → kept k policy history ≡ true → guarded k policy history ≡ policy history

abbrev pub KeptCounts : Type 0
KeptCounts =
    (k h m : ℕ) (policy : Policy) → 0 < h → h ≤ k → kept k policy (history_after [] (adversary k h policy m)) ≡ true →
    Counted k h policy m
