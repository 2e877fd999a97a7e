-- Two traces counted out. Assumes nothing.
--     ten            ten requests
--     rounds         four pages in turn, three times over
--     two_places     a schedule with two places for rounds
--     Worked         what LRU and Belady's rule do on both, and how they compare with schedules
use Rattle.std.specs.Prelude.{◌≡◌, ℕ, ◌*◌, ◌≤◌, true, List, [], ◌∷◌}
use Rattle.paging.specs.Belady.{belady_fetches}
use Rattle.paging.specs.Lru.{lru_fetches, lru_after}
use Rattle.paging.specs.Schedules.{feasible, schedule_fetches}

abbrev pub ten : List ℕ
ten = 1 ∷ 2 ∷ 3 ∷ 1 ∷ 4 ∷ 1 ∷ 2 ∷ 5 ∷ 3 ∷ 1 ∷ []

abbrev pub rounds : List ℕ
rounds = 1 ∷ 2 ∷ 3 ∷ 4 ∷ 1 ∷ 2 ∷ 3 ∷ 4 ∷ 1 ∷ 2 ∷ 3 ∷ 4 ∷ []

abbrev pair : ℕ → ℕ → List ℕ
pair x y = x ∷ y ∷ []

abbrev pub two_places : List (List ℕ)
two_places =
    (1 ∷ []) ∷ pair 2 1 ∷ pair 3 1 ∷ pair 4 1 ∷ pair 4 1 ∷ pair 2 4 ∷ pair 3 4 ∷ pair 3 4 ∷ pair 1 3 ∷ pair 2 3 ∷ pair 2 3 ∷ pair 4 3 ∷ []

pub record Worked : Type 0 where
  pub ten_2 : lru_fetches 2 [] ten ≡ 9
  pub ten_3 : lru_fetches 3 [] ten ≡ 8
  pub ten_4 : lru_fetches 4 [] ten ≡ 6
  pub ten_left : lru_after 3 [] ten ≡ 1 ∷ 3 ∷ 5 ∷ []
  -- the fewest that any schedule fetches there
  pub ten_2_fewest : belady_fetches 2 [] ten ≡ 7
  pub ten_3_fewest : belady_fetches 3 [] ten ≡ 6
  pub ten_4_fewest : belady_fetches 4 [] ten ≡ 5
  -- with a place less than pages every request is fetched, and with a place for each only the first of each
  pub rounds_3 : lru_fetches 3 [] rounds ≡ 12
  pub rounds_4 : lru_fetches 4 [] rounds ≡ 4
  pub rounds_2_fewest : belady_fetches 2 [] rounds ≡ 9
  pub rounds_3_fewest : belady_fetches 3 [] rounds ≡ 6
  pub rounds_4_fewest : belady_fetches 4 [] rounds ≡ 4
  -- the competitive bound at three places beside two: no schedule fetches fewer than 8; the fewest are 9, and this one fetches so many
  pub bound : (schedule : List (List ℕ)) → feasible 2 [] rounds schedule ≡ true → 2 * 12 ≤ 3 * schedule_fetches [] rounds schedule
  pub least : (schedule : List (List ℕ)) → feasible 2 [] rounds schedule ≡ true → 9 ≤ schedule_fetches [] rounds schedule
  pub two_feasible : feasible 2 [] rounds two_places ≡ true
  pub two_fetches : schedule_fetches [] rounds two_places ≡ 9
