-- What is claimed about paging: each is a statement, and src/ has a function for each whose contract says that it holds.
-- Assumes nothing.
use Rattle.std.specs.Prelude.{◌≡◌, ℕ, suc, ◌+◌, ◌-◌, ◌*◌, ◌<◌, ◌≤◌, true, false, List, [], ◌∷◌, ◌++◌, length, take}
use Rattle.paging.specs.Belady.{belady_fetches, belady_schedule, furthest_first, Fewest}
use Rattle.paging.specs.Distance.{found, stack_hits}
use Rattle.paging.specs.Lists.{has, distinct, place}
use Rattle.paging.specs.Lru.{lru_fetches, lru_after}
use Rattle.paging.specs.Schedules.{feasible, schedule_fetches}
use Rattle.paging.specs.Sifted.{row_hits}
use Rattle.paging.specs.Stretches.{last_requested, different, missing}

-- LRU with k places fetches at most k / (k - h + 1) times what any schedule with h places fetches, however much that one knows of the
-- trace. Both begin with an empty cache.
abbrev pub Competitive : Type 0
Competitive =
    (k h : ℕ) (trace : List ℕ) (schedule : List (List ℕ)) → 0 < h → h ≤ k → feasible h [] trace schedule ≡ true →
    (suc k - h) * lru_fetches k [] trace ≤ k * schedule_fetches [] trace schedule

-- The same from any two caches, where the pages that the schedule begins with count as fetched.
abbrev pub CompetitiveFrom : Type 0
CompetitiveFrom =
    (k h : ℕ) (cache trace start : List ℕ) (schedule : List (List ℕ)) → 0 < h → h ≤ k → feasible h start trace schedule ≡ true →
    (suc k - h) * lru_fetches k cache trace ≤ k * (length start + schedule_fetches start trace schedule)

-- More places never fetch more: what the smaller cache holds is the beginning of what the larger one holds.
abbrev pub Inclusion : Type 0
Inclusion =
    (k j : ℕ) (trace : List ℕ) → k ≤ j →
    (lru_after k [] trace ≡ take k (lru_after j [] trace)) × (lru_fetches j [] trace ≤ lru_fetches k [] trace)

-- The cache holds the pages requested last, each once, at most as many as it has places.
abbrev pub Recency : Type 0
Recency =
    (k : ℕ) (trace : List ℕ) →
    (lru_after k [] trace ≡ take k (last_requested trace []))
    × (distinct (lru_after k [] trace) ≡ true)
    × (length (lru_after k [] trace) ≤ k)

-- A trace in two parts: the fetches of the parts add up, and the second part costs no more than it would from an empty cache.
abbrev pub Split : Type 0
Split =
    (k : ℕ) (trace rest : List ℕ) →
    (lru_fetches k [] (trace ++ rest) ≡ lru_fetches k [] trace + lru_fetches k (lru_after k [] trace) rest)
    × (lru_fetches k (lru_after k [] trace) rest ≤ lru_fetches k [] rest)

-- In a stretch with at most k different pages LRU with k places fetches each at most once, whatever was requested before it.
abbrev pub FewPages : Type 0
FewPages =
    (k : ℕ) (before stretch : List ℕ) → different stretch ≤ k → lru_fetches k (lru_after k [] before) stretch ≤ different stretch

-- In a stretch any schedule fetches each page at least once that does not stand in its cache when the stretch begins.
abbrev pub ColdFetches : Type 0
ColdFetches =
    (h : ℕ) (before stretch : List ℕ) (schedule : List (List ℕ)) → feasible h before stretch schedule ≡ true →
    different (missing before stretch) ≤ schedule_fetches before stretch schedule

-- From an empty cache LRU fetches each page of the trace at least once.
abbrev pub Compulsory : Type 0
Compulsory = (k : ℕ) (trace : List ℕ) → different trace ≤ lru_fetches k [] trace

-- A page stays in the cache while fewer than k different pages are requested after it.
abbrev pub Retained : Type 0
Retained =
    (k page : ℕ) (before between : List ℕ) → different between < k → has (lru_after k [] (before ++ page ∷ between)) page ≡ true

-- One stack of the pages requested last serves every capacity: a page is in the cache of c places exactly where it stands among the first c of
-- the stack; its place there is the number of different pages requested since its last request; and a trace's requests are fetches and hits.
pub record StackDistance : Type 0 where
  pub hit : (c : ℕ) (before : List ℕ) (page : ℕ) → has (lru_after c [] before) page ≡ found c page (last_requested before [])
  pub since :
      (before : List ℕ) (page : ℕ) (between : List ℕ) → has between page ≡ false →
      (has (last_requested (before ++ page ∷ between) []) page ≡ true)
      × (place page (last_requested (before ++ page ∷ between) []) ≡ different between)
  pub fetches : (c : ℕ) (trace : List ℕ) → lru_fetches c [] trace + stack_hits c [] trace ≡ length trace

-- Belady's rule fetches no more than any schedule with as many places.
abbrev pub BeladyLeast : Type 0
BeladyLeast =
    (h : ℕ) (trace : List ℕ) (schedule : List (List ℕ)) → 0 < h → feasible h [] trace schedule ≡ true →
    belady_fetches h [] trace ≤ schedule_fetches [] trace schedule

-- And it makes a schedule itself.
abbrev pub BeladyFeasible : Type 0
BeladyFeasible =
    (h : ℕ) (trace : List ℕ) → 0 < h →
    (feasible h [] trace (belady_schedule h [] trace) ≡ true)
    × (schedule_fetches [] trace (belady_schedule h [] trace) ≡ belady_fetches h [] trace)

-- It does not matter which page goes of several whose next use is furthest.
abbrev pub AnyFurthest : Type 0
AnyFurthest =
    (h : ℕ) (trace : List ℕ) (schedule : List (List ℕ)) → 0 < h → feasible h [] trace schedule ≡ true →
    furthest_first h [] trace schedule ≡ true → schedule_fetches [] trace schedule ≡ belady_fetches h [] trace

-- So what it fetches is the offline optimum.
abbrev pub BeladyFewest : Type 0
BeladyFewest = (h : ℕ) (trace : List ℕ) → 0 < h → Fewest h trace (belady_fetches h [] trace)

-- One row serves every capacity: what Belady's rule fetches with c places are the requests whose page does not stand among the first c of the
-- sifted row.
abbrev pub OnePass : Type 0
OnePass = (c : ℕ) (trace : List ℕ) → 0 < c → belady_fetches c [] trace + row_hits c [] trace ≡ length trace
