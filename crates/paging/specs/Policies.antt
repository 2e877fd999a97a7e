-- Online policies: who keeps a cache without knowing what will be requested. Assumes nothing: these are definitions.
--     Policy                          what stands in a policy's cache after the requests so far, the latest first: a history
--     history_after history trace     the history after the further requests of trace
--     policy_fetches policy history   how many requests of history were not in the policy's cache when they came
--     keeps k before page after       a cache of k places may go from before to after at a request for page
--     Obeys k policy                  the policy keeps a cache of k places, whatever is requested, and begins with an empty one
use Rattle.std.specs.Prelude.{◌≡◌, ℕ, suc, Bool, true, cond, ◌&&◌, List, [], ◌∷◌, length, nat_le}
use Rattle.paging.specs.Lists.{has}
use Rattle.paging.specs.Schedules.{only_adds}

abbrev pub Policy : Type 0
Policy = List ℕ → List ℕ

unfoldable pub history_after : List ℕ → List ℕ → List ℕ
history_after history [] = history
history_after history (page ∷ trace) = history_after (page ∷ history) trace

unfoldable pub policy_fetches : Policy → List ℕ → ℕ
policy_fetches policy [] = 0
policy_fetches policy (page ∷ history) =
    cond (has (policy history) page) (policy_fetches policy history) (suc (policy_fetches policy history))

unfoldable pub keeps : ℕ → List ℕ → ℕ → List ℕ → Bool
keeps k before page after = nat_le (length after) k && (has after page && only_adds after page before)

pub record Obeys (k : ℕ) (policy : Policy) : Type 0 where
  pub starts : policy [] ≡ []
  pub goes : (page : ℕ) (history : List ℕ) → keeps k (policy history) page (policy (page ∷ history)) ≡ true
