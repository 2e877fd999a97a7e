-- What a whole run promises. Assumes nothing: these are definitions.
--     halts k h policy m n            why a run of m rounds stops after n requests, or None: after the last one only the rules are tested
--     Ran k h policy m r row now      the opening and m rounds were played, and the counts are these
--     Broke k h policy m s row now    the run was broken off: after how many requests, and why
use Rattle.std.specs.Prelude.{◌≡◌, ℕ, suc, ◌+◌, ◌-◌, ◌*◌, ◌≤◌, cond, List, [], Some, None, Option, nat_lt}
use Rattle.paging.specs.Adversary.{adversary}
use Rattle.paging.specs.LowerBound.{Counted}
use Rattle.paging.specs.Policies.{Policy, history_after}
use Rattle.lru_cache.specs.declared.refusals.Refusal.{Refusal}
use Rattle.adversary.specs.declared.challenge.Challenge.{Challenge}
use Rattle.trace.specs.declared.totals.Totals.{Totals}
use Rattle.runs.specs.declared.stopped.Stopped.{Stopped}
use Rattle.adversary.specs.Runs.{Led}
use Rattle.runs.specs.Runs.{played, broken_after, Against, stops}
use Rattle.adversary.specs.Steps.{told}

abbrev pub halts : ℕ → ℕ → Policy → ℕ → ℕ → Option Refusal
halts k h policy m n = cond (nat_lt n (h + m * k)) (stops k h policy n) (told (broken_after k policy (played k h policy n).history) None)

pub record Ran (k h : ℕ) (policy : Policy) (m : ℕ) (r : Totals) (row : List ℕ) (current : Policy) : Type 0 where
  pub asked_is : r.asked ≡ h + m * k
  pub keeper_is : r.keeper ≡ h + m * k
  pub rival_is : r.rival ≡ h + m * (suc k - h)
  -- these are the adversary's requests, each fetched by the policy, beside a feasible schedule with h places
  pub counted : Counted k h policy m
  -- and they are what the policy was given
  pub led : Led policy (history_after [] (adversary k h policy m)) current
  pub stands : Challenge
  pub against : Against k h policy (h + m * k) stands row

pub record Broke (k h : ℕ) (policy : Policy) (m : ℕ) (s : Stopped) (row : List ℕ) (current : Policy) : Type 0 where
  pub far : s.after ≤ h + m * k
  pub why : halts k h policy m s.after ≡ Some s.refusal
  pub led : Led policy (played k h policy s.after).history current
  pub stands : Challenge
  pub against : Against k h policy s.after stands row
