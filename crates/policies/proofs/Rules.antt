-- A policy that goes on request by request is its rule, and so keeps a cache.
use Rattle.std.proofs.Common.{◌≡◌, ℕ, ◌<◌, List, [], ◌∷◌, ◌++◌, refl, ap, ◌∙◌}
use Rattle.paging.specs.Lru.{lru}
use Rattle.paging.specs.Policies.{Policy}
use Rattle.paging.specs.Rules.{lru_policy, Proper}
use Rattle.paging.proofs.Fewest.{rules_proper}
use Rattle.policies.specs.Onward.{onward, Does}

-- a request before all others
pub onward_first : {S : Type 0} (step : S → ℕ → S) (state : S) (page : ℕ) (further : List ℕ) → onward step (step state page) further ≡ onward step state (further ++ page ∷ [])
unfolding onward
onward_first step state page [] = refl
onward_first step state page (x ∷ further) = ap (λ s. step s x) (onward_first step state page further)

pub goes_on : {S : Type 0} (step : S → ℕ → S) (before after : S) (page : ℕ) → after ≡ step before page → (further : List ℕ) → onward step after further ≡ onward step before (further ++ page ∷ [])
goes_on step before after page e further = ap (λ s. onward step s further) e ∙ onward_first step before page further

-- a policy that is another on every history
pub proper_like : (k : ℕ) (rule policy : Policy) → ((history : List ℕ) → policy history ≡ rule history) → Proper k rule → Proper k policy
proper_like k rule policy same p =
    record {
      obeys = record {
        starts = same [] ∙ p.obeys.starts;
        goes = λ page history. rw (same history, same (page ∷ history)) (p.obeys.goes page history);
      };
      apart = λ history. rw (same history) (p.apart history);
    }

lru_same : (k : ℕ) (history : List ℕ) → onward (lru k) [] history ≡ lru_policy k history
unfolding onward lru_policy
lru_same k [] = refl
lru_same k (page ∷ history) = ap (λ (cache : List ℕ). lru k cache page) (lru_same k history)

pub lru_does : (k : ℕ) → 0 < k → Does k (lru_policy k) (onward (lru k) [])
lru_does k pos =
    record { same = lru_same k; proper = proper_like k (lru_policy k) (onward (lru k) []) (lru_same k) (rules_proper k pos).lru_proper }
