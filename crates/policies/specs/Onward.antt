-- Policies that go on from what they hold. Assumes nothing: these are definitions.
--     onward step state history     the state after history, the latest request first, where step is what one request does
--     is_capacity k                 k is 1 to 4,096
--     unmade k                      why there is no cache of k places: k is no capacity, or there is no memory
--     Does k rule policy            policy is the rule, and so keeps a cache of k places, with no page twice
use Rattle.std.specs.Prelude.{◌≡◌, ℕ, Bool, ◌&&◌, List, [], ◌∷◌, nat_le, if◌then◌else◌}
use Rattle.lru_cache.specs.declared.refusals.Refusal.TheVariants as refusal
use Rattle.lru_cache.specs.declared.stops.Stop.{Stop}
use Rattle.lru_cache.specs.declared.stops.Stop.TheVariants as stop
use Rattle.paging.specs.Policies.{Policy}
use Rattle.paging.specs.Rules.{Proper}

unfoldable pub onward : {S : Type 0} → (S → ℕ → S) → S → List ℕ → S
onward step state [] = state
onward step state (page ∷ history) = step (onward step state history) page

abbrev pub is_capacity : ℕ → Bool
is_capacity k = nat_le 1 k && nat_le k 4096

abbrev pub unmade : ℕ → Stop
unmade k = if is_capacity k then stop.Memory else stop.Refused refusal.NoCache

pub record Does (k : ℕ) (rule policy : Policy) : Type 0 where
  pub same : (history : List ℕ) → policy history ≡ rule history
  pub proper : Proper k policy
