-- What is claimed against every online policy: each is a statement, and src/lower_bound.rt has a function for each whose contract says
-- that it holds. Assumes nothing: these are definitions.
--     Counted k h policy m     the opening and m rounds of the adversary against policy, counted out
--     ExactCounts             every policy that obeys the rules is counted out so
--     NoPolicyBeats          no policy can promise less than k / (k - h + 1) times what a schedule with h places fetches
use Rattle.std.specs.Prelude.{◌≡◌, ℕ, suc, ◌+◌, ◌-◌, ◌*◌, ◌<◌, ◌≤◌, true, List, [], length}
use Rattle.paging.specs.Adversary.{adversary, beside}
use Rattle.paging.specs.Policies.{Policy, history_after, policy_fetches, Obeys}
use Rattle.paging.specs.Schedules.{feasible, schedule_fetches}

pub record Counted (k h : ℕ) (policy : Policy) (m : ℕ) : Type 0 where
  pub requested : length (adversary k h policy m) ≡ h + m * k
  -- the policy fetches every request
  pub fetched : policy_fetches policy (history_after [] (adversary k h policy m)) ≡ h + m * k
  -- and the schedule beside it only the new pages
  pub allowed : feasible h [] (adversary k h policy m) (beside k h policy m) ≡ true
  pub fetched_beside : schedule_fetches [] (adversary k h policy m) (beside k h policy m) ≡ h + m * (suc k - h)

abbrev pub ExactCounts : Type 0
ExactCounts = (k h m : ℕ) (policy : Policy) → 0 < h → h ≤ k → Obeys k policy → Counted k h policy m

-- For every policy with k places there is a trace, as long as one likes, of which it fetches every request, and a schedule with h places
-- that fetches at most (k - h + 1) / k of that, and a number that does not depend on the trace.
abbrev pub NoPolicyBeats : Type 0
NoPolicyBeats =
    (k h n : ℕ) (policy : Policy) → 0 < h → h ≤ k → Obeys k policy →
    (trace : List ℕ)
    × (schedule : List (List ℕ))
    × (n ≤ length trace)
    × (policy_fetches policy (history_after [] trace) ≡ length trace)
    × (feasible h [] trace schedule ≡ true)
    × (k * schedule_fetches [] trace schedule ≤ (suc k - h) * length trace + h * (h - 1))
