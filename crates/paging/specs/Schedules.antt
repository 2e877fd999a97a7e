-- Anybody's way of keeping a cache of h places: a schedule. Assumes nothing: these are definitions.
--     only_adds cache page before          each page of cache is page or stood in before
--     feasible h before trace schedule     schedule has one cache for each request of trace: at most h pages, none twice, the page
--                                          requested among them, and no other that was not in the cache before
--     schedule_fetches before trace schedule   how many requests were not in the cache before
use Rattle.std.specs.Prelude.{ℕ, suc, Bool, true, false, cond, ◌&&◌, ◌||◌, List, [], ◌∷◌, length, ◌==◌, nat_le}
use Rattle.paging.specs.Lists.{has, distinct}

unfoldable pub only_adds : List ℕ → ℕ → List ℕ → Bool
only_adds [] page before = true
only_adds (x ∷ xs) page before = (x == page || has before x) && only_adds xs page before

unfoldable pub feasible : ℕ → List ℕ → List ℕ → List (List ℕ) → Bool
feasible h before [] [] = true
feasible h before [] (cache ∷ schedule) = false
feasible h before (page ∷ trace) [] = false
feasible h before (page ∷ trace) (cache ∷ schedule) =
    ((nat_le (length cache) h && distinct cache) && (has cache page && only_adds cache page before)) && feasible h cache trace schedule

unfoldable pub schedule_fetches : List ℕ → List ℕ → List (List ℕ) → ℕ
schedule_fetches before [] schedule = 0
schedule_fetches before (page ∷ trace) [] = 0
schedule_fetches before (page ∷ trace) (cache ∷ schedule) =
    cond (has before page) (schedule_fetches cache trace schedule) (suc (schedule_fetches cache trace schedule))
