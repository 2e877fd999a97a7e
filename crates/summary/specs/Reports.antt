-- The report of a trace for 1, 2 .. 4,096 places, as two rows. Assumes nothing.
--     Reports trace house known     house says what LRU fetches, and known the fewest that anybody could
use Rattle.std.specs.Prelude.{◌≡◌, ℕ, ◌+◌, ◌-◌, ◌*◌, ◌≤◌, List, [], length, slice_index}
use Rattle.paging.specs.Belady.{belady_fetches}
use Rattle.paging.specs.Lru.{lru_fetches}

pub record Reports (trace house known : List ℕ) : Type 0 where
  pub short : length trace ≤ 4096
  pub house_long : length house ≡ 4096
  pub known_long : length known ≡ 4096
  -- from an empty cache
  pub fetches : (c : ℕ) → 1 ≤ c → c ≤ 4096 → slice_index house (c - 1) ≡ lru_fetches c [] trace
  -- what Belady's rule fetches
  pub fewest : (c : ℕ) → 1 ≤ c → c ≤ 4096 → slice_index known (c - 1) ≡ belady_fetches c [] trace
  -- LRU with k places fetches at most k / (k + 1 - h) times the fewest with h places
  pub bound : (k h : ℕ) → 1 ≤ h → h ≤ k → k ≤ 4096 → (k + 1 - h) * slice_index house (k - 1) ≤ k * slice_index known (h - 1)
