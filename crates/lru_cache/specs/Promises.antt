-- What the cache promises of the rows that it is lent. Assumes nothing.
--     Small pages                     every page is below 2^32
--     Shaped row m k                  the row has room for its capacity k, and an index row of m numbers is long enough
--     Checked row m k n               the row is a cache row of capacity k with n pages, and an index row of m numbers is long enough
--     Indexed k pages index index'    index' finds exactly these pages, in this order, and beyond its length it is index
--     Left pages cache index ..       the rows hold these pages now: the cache row number by number, the index row as its index; beyond
--                                     their lengths they are as they were, and the cache row is one that is served again
--     Bounded k start trace n         n fetches are never much more than what any schedule makes
--     Served ..                       one request was served: its outcome, and the rows
--     Played ..                       a trace was played: how many fetches, the outcomes, the rows, and the bound
use Rattle.std.specs.Prelude.{◌≡◌, ℕ, suc, ◌+◌, ◌-◌, ◌*◌, ◌^◌, ◌<◌, ◌≤◌, true, List, ◌++◌, length, take, drop, None, slice_index}
use Rattle.paging.specs.Lists.{has, distinct}
use Rattle.paging.specs.Lru.{lru, lru_fetches, lru_after}
use Rattle.paging.specs.Schedules.{feasible, schedule_fetches}
use Rattle.recency.specs.Outcome.{outcome}
use Rattle.recency.specs.Row as recent
use Rattle.recency.specs.Sound.{Sound}
use Rattle.recency.specs.declared.uses.Outcome.{Outcome}
use Rattle.lru_cache.specs.Rows.{capacity, cached, row_of, shaped, fault}
use Rattle.lru_cache.specs.Outcomes.{outcomes}

abbrev pub Small : List ℕ → Type 0
Small pages = (x : ℕ) → has pages x ≡ true → x < 2 ^ 32

pub record Shaped (row : List ℕ) (m k : ℕ) : Type 0 where
  pub is : shaped row m ≡ true
  pub capacity_is : k ≡ capacity row
  pub low : 1 ≤ k
  pub high : k ≤ 4096
  pub long : 2 + k ≤ length row
  pub room : 9 * k + 5 ≤ m

pub record Checked (row : List ℕ) (m k n : ℕ) : Type 0 where
  pub capacity_is : k ≡ capacity row
  pub many : n ≡ slice_index row 1
  pub low : 1 ≤ k
  pub high : k ≤ 4096
  pub long : 2 + k ≤ length row
  pub room : 9 * k + 5 ≤ m
  pub few : n ≤ k
  pub once : distinct (cached row) ≡ true
  pub small : Small (cached row)
  pub none : fault row m ≡ None

pub record Indexed (k : ℕ) (pages index index' : List ℕ) : Type 0 where
  pub sound : Sound k index'
  pub holds : recent.pages index' ≡ pages
  pub beyond : drop (9 * k + 5) index' ≡ drop (9 * k + 5) index

pub record Left (pages cache index cache' index' : List ℕ) : Type 0 where
  pub row : cache' ≡ row_of (capacity cache) pages (drop (2 + capacity cache) cache)
  pub indexed : Indexed (capacity cache) pages index index'
  pub again : fault cache' (length index') ≡ None

abbrev pub Bounded : ℕ → List ℕ → ℕ → Type 0
Bounded k trace n =
    (h : ℕ) (start : List ℕ) (schedule : List (List ℕ)) → 0 < h → h ≤ k → feasible h start trace schedule ≡ true →
    (suc k - h) * n ≤ k * (length start + schedule_fetches start trace schedule)

pub record Played (cache index trace : List ℕ) (found : List Outcome) (n : ℕ) (cache' index' : List ℕ) (found' : List Outcome) : Type 0 where
  pub fetches : n ≡ lru_fetches (capacity cache) (cached cache) trace
  pub told : found' ≡ take (length found) (outcomes (capacity cache) (cached cache) trace) ++ drop (length trace) found
  pub left : Left (lru_after (capacity cache) (cached cache) trace) cache index cache' index'
  pub bounded : Bounded (capacity cache) trace n

-- one request was served: its outcome, and the rows
pub record Served (cache index : List ℕ) (page : ℕ) (o : Outcome) (cache' index' : List ℕ) : Type 0 where
  pub value : o ≡ outcome (capacity cache) (cached cache) page
  pub left : Left (lru (capacity cache) (cached cache) page) cache index cache' index'
