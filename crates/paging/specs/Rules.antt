-- Rules as online policies, and that each keeps a cache. Assumes nothing: these are definitions.
--     lru_policy k history      of a full cache the page requested longest ago goes; the page requested last first
--     fifo_policy k history     first come, first gone: the page that came last first
--     Proper k policy           the policy obeys the rules of a cache of k places, and never holds a page twice
--     Rules k                   so do LRU, first come first gone, and the three rules that fail
--     RulesProper              for every k but 0
use Rattle.std.specs.Prelude.{◌≡◌, ℕ, ◌<◌, true, cond, List, [], ◌∷◌, take}
use Rattle.paging.specs.Failing.{least_requested_goes, last_requested_goes, direct_mapped}
use Rattle.paging.specs.Lists.{has, distinct}
use Rattle.paging.specs.Lru.{lru}
use Rattle.paging.specs.Policies.{Policy, Obeys}

unfoldable pub lru_policy : ℕ → Policy
lru_policy k [] = []
lru_policy k (page ∷ history) = lru k (lru_policy k history) page

unfoldable pub fifo_policy : ℕ → Policy
fifo_policy k [] = []
fifo_policy k (page ∷ history) =
    let cache : List ℕ = fifo_policy k history in
    cond (has cache page) cache (take k (page ∷ cache))

pub record Proper (k : ℕ) (policy : Policy) : Type 0 where
  pub obeys : Obeys k policy
  pub apart : (history : List ℕ) → distinct (policy history) ≡ true

pub record Rules (k : ℕ) : Type 0 where
  pub lru_proper : Proper k (lru_policy k)
  pub fifo_proper : Proper k (fifo_policy k)
  pub least_requested_proper : Proper k (least_requested_goes k)
  pub last_requested_proper : Proper k (last_requested_goes k)
  pub direct_mapped_proper : Proper k (direct_mapped k)

abbrev pub RulesProper : Type 0
RulesProper = (k : ℕ) → 0 < k → Rules k
