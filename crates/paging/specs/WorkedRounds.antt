-- Two runs of the adversary counted out. Assumes nothing.
--     WorkedRounds     nine rounds against LRU with three places beside three, and three rounds against the least requested with five
--                       places beside two
use Rattle.std.specs.Prelude.{◌≡◌, true, [], ◌∷◌}
use Rattle.paging.specs.Adversary.{opened, rounds, adversary, beside}
use Rattle.paging.specs.Failing.{least_requested_goes}
use Rattle.paging.specs.Policies.{history_after, policy_fetches}
use Rattle.paging.specs.Rules.{lru_policy}
use Rattle.paging.specs.Schedules.{feasible, schedule_fetches}

pub record WorkedRounds : Type 0 where
  pub three :
      adversary 3 3 (lru_policy 3) 9
      ≡ 1 ∷ 2 ∷ 3 ∷ 4 ∷ 1 ∷ 2 ∷ 5 ∷ 4 ∷ 1 ∷ 6 ∷ 5 ∷ 4 ∷ 7 ∷ 6 ∷ 5 ∷ 8 ∷ 7 ∷ 6 ∷ 9 ∷ 8 ∷ 7 ∷ 10 ∷ 9 ∷ 8 ∷ 11 ∷ 10 ∷ 9 ∷ 12 ∷ 11 ∷ 10 ∷ []
  pub three_list : (rounds 3 3 (lru_policy 3) 9 (opened 3)).list ≡ 11 ∷ 10 ∷ 12 ∷ []
  pub three_fetches : policy_fetches (lru_policy 3) (history_after [] (adversary 3 3 (lru_policy 3) 9)) ≡ 30
  pub three_allowed : feasible 3 [] (adversary 3 3 (lru_policy 3) 9) (beside 3 3 (lru_policy 3) 9) ≡ true
  pub three_beside : schedule_fetches [] (adversary 3 3 (lru_policy 3) 9) (beside 3 3 (lru_policy 3) 9) ≡ 12
  pub five :
      adversary 5 2 (least_requested_goes 5) 3
      ≡ 1 ∷ 2 ∷ 3 ∷ 4 ∷ 5 ∷ 6 ∷ 1 ∷ 7 ∷ 8 ∷ 9 ∷ 10 ∷ 6 ∷ 11 ∷ 12 ∷ 13 ∷ 14 ∷ 10 ∷ []
