-- One step of a challenge. Assumes nothing: these are definitions.
--     exhausted k p                       page 2^32 would be needed
--     refusal k p asked before shown      why there is no next request at position p, or None
--     refusal_in c row shown              the same for what a challenge and its row stand for
--     fault_in c row shown                what is shown breaks the rules; this alone is told after the last request
--     if_long c row e                     e, where the row is long enough for the challenge
--     Chosen c row shown page             this is the page to request where that is shown, if it keeps the rules
--     Aimed c row shown page              the same where it keeps them
--     Stepped c row shown c' row'         that page was requested: where the adversary stands then
use Rattle.std.specs.Prelude.{◌≡◌, ℕ, ◌+◌, ◌*◌, ◌^◌, ◌<◌, ◌≤◌, cond, List, [], ◌∷◌, length, drop, Some, None, Option, nat_le, nat_lt}
use Rattle.paging.specs.Stepwise.{Position, complete, next_request, moved}
use Rattle.lru_cache.specs.declared.refusals.Refusal.{Refusal}
use Rattle.lru_cache.specs.declared.refusals.Refusal.TheVariants.{NoCache, BrokenRule, NoPageLeft}
use Rattle.adversary.specs.declared.challenge.Challenge.{Challenge}
use Rattle.adversary.specs.Places.{shown_in, asked_in, position_in}
use Rattle.adversary.specs.Rules.{broken}

unfoldable pub exhausted : ℕ → Position → Option Refusal
exhausted k p = cond (complete k p) None (cond (nat_lt p.next (2 ^ 32)) None (Some NoPageLeft))

abbrev pub told : Option ℕ → Option Refusal → Option Refusal
told (Some at) e = Some (BrokenRule at)
told None e = e

unfoldable pub refusal : ℕ → Position → List ℕ → List ℕ → List ℕ → Option Refusal
refusal k p asked before shown = told (broken k asked before shown) (exhausted k p)

abbrev pub refusal_in : Challenge → List ℕ → List ℕ → Option Refusal
refusal_in c row shown = refusal c.k (position_in c row) (asked_in c) (shown_in c row) shown

abbrev pub fault_in : Challenge → List ℕ → List ℕ → Option Refusal
fault_in c row shown = told (broken c.k (asked_in c) (shown_in c row) shown) None

abbrev pub if_long : Challenge → List ℕ → Option Refusal → Option Refusal
if_long c row e = cond (nat_le (3 * c.k + 1) (length row)) e (Some NoCache)

pub record Chosen (c : Challenge) (row shown : List ℕ) (page : ℕ) : Type 0 where
  pub none : exhausted c.k (position_in c row) ≡ None
  pub page_is : page ≡ next_request c.k (position_in c row) shown
  pub left : c.listed ≤ c.k → c.next < 2 ^ 32

pub record Aimed (c : Challenge) (row shown : List ℕ) (page : ℕ) : Type 0 where
  pub none : refusal_in c row shown ≡ None
  pub page_is : page ≡ next_request c.k (position_in c row) shown
  pub few : length shown ≤ c.k
  pub left : c.listed ≤ c.k → c.next < 2 ^ 32

pub record Stepped (c : Challenge) (row shown : List ℕ) (c' : Challenge) (row' : List ℕ) : Type 0 where
  pub none : refusal_in c row shown ≡ None
  pub page_is : c'.last ≡ next_request c.k (position_in c row) shown
  pub position : position_in c' row' ≡ moved c.k c.h (position_in c row) c'.last
  pub asked : asked_in c' ≡ c'.last ∷ []
  pub shown_is : shown_in c' row' ≡ shown
  pub k_is : c'.k ≡ c.k
  pub h_is : c'.h ≡ c.h
  pub beyond : drop (3 * c.k + 1) row' ≡ drop (3 * c.k + 1) row
