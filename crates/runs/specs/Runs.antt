-- A run against a policy. Assumes nothing: these are definitions.
--     played k h policy n          where the adversary stands after n requests against the policy, and what they were
--     asked_of history             the request that came last, if one did
--     before_of policy history     what the policy showed before it
--     broken_after k policy history    where what the policy shows after these requests breaks the rules
--     earlier k policy history     the policy kept the rules before the request that came last
--     Against k h policy n c row   the challenge and its row are where the adversary stands after n requests, and the rules were kept so far
--     stops k h policy n           why there is no request after n, or None
--     Halted k h policy n e row now    the run stopped after n requests, for this reason
use Rattle.std.specs.Prelude.{◌≡◌, ℕ, ◌+◌, ◌*◌, ◌≤◌, Bool, true, List, [], ◌∷◌, length, Some, Option}
use Rattle.lru_cache.specs.declared.refusals.Refusal.{Refusal}
use Rattle.paging.specs.Guarded.{kept}
use Rattle.paging.specs.Policies.{Policy}
use Rattle.paging.specs.Stepwise.{Play, start, plays}
use Rattle.adversary.specs.declared.challenge.Challenge.{Challenge}
use Rattle.adversary.specs.Places.{position_in, asked_in, shown_in}
use Rattle.adversary.specs.Rules.{broken}
use Rattle.adversary.specs.Runs.{Led}
use Rattle.adversary.specs.Steps.{refusal}

abbrev pub played : ℕ → ℕ → Policy → ℕ → Play
played k h policy n = plays k h policy n (record { position = start; history = [] })

abbrev pub asked_of : List ℕ → List ℕ
asked_of [] = []
asked_of (page ∷ history) = page ∷ []

abbrev pub before_of : Policy → List ℕ → List ℕ
before_of policy [] = []
before_of policy (page ∷ history) = policy history

abbrev pub broken_after : ℕ → Policy → List ℕ → Option ℕ
broken_after k policy history = broken k (asked_of history) (before_of policy history) (policy history)

abbrev pub earlier : ℕ → Policy → List ℕ → Bool
earlier k policy [] = true
earlier k policy (page ∷ history) = kept k policy history

pub record Against (k h : ℕ) (policy : Policy) (n : ℕ) (c : Challenge) (row : List ℕ) : Type 0 where
  pub k_is : c.k ≡ k
  pub h_is : c.h ≡ h
  pub long : 3 * k + 1 ≤ length row
  pub position : position_in c row ≡ (played k h policy n).position
  pub asked : asked_in c ≡ asked_of (played k h policy n).history
  pub before : shown_in c row ≡ before_of policy (played k h policy n).history
  pub keeps_rules : earlier k policy (played k h policy n).history ≡ true

abbrev pub stops : ℕ → ℕ → Policy → ℕ → Option Refusal
stops k h policy n =
    let x : Play = played k h policy n in
    refusal k x.position (asked_of x.history) (before_of policy x.history) (policy x.history)

pub record Halted (k h : ℕ) (policy : Policy) (n : ℕ) (e : Refusal) (row : List ℕ) (current : Policy) : Type 0 where
  pub why : stops k h policy n ≡ Some e
  pub led : Led policy (played k h policy n).history current
  pub stands : Challenge
  pub against : Against k h policy n stands row
