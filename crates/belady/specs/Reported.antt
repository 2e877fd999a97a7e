-- What a report says. Assumes nothing.
--     Reported trace m row row'     row' is the report of trace for 1, 2 .. m places, and beyond it what row was
use Rattle.std.specs.Prelude.{◌≡◌, ℕ, suc, ◌+◌, ◌-◌, ◌*◌, ◌≤◌, List, [], drop, slice_index}
use Rattle.paging.specs.Belady.{Fewest}
use Rattle.paging.specs.Lru.{lru_fetches}

pub record Reported (trace : List ℕ) (m : ℕ) (row row' : List ℕ) : Type 0 where
  -- in the first half stands what LRU fetches from an empty cache
  pub fetches : (c : ℕ) → 1 ≤ c → c ≤ m → slice_index row' (c - 1) ≡ lru_fetches c [] trace
  -- in the second half the fewest that anybody could: some schedule fetches so many, and none fewer
  pub fewest : (c : ℕ) → 1 ≤ c → c ≤ m → Fewest c trace (slice_index row' (m + c - 1))
  -- LRU with k places fetches at most k / (k + 1 - h) times the fewest with h places
  pub bound : (k h : ℕ) → 1 ≤ h → h ≤ k → k ≤ m → (suc k - h) * slice_index row' (k - 1) ≤ k * slice_index row' (m + h - 1)
  pub beyond : drop (2 * m) row' ≡ drop (2 * m) row
