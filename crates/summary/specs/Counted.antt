-- What a summary says of a trace and a cache of k places. Assumes nothing.
--     rounded_up a b              a / b rounded up, and 0 where b is 0
--     Tightest known k h          of 1, 2 .. k places h are those against which the promise of k places is tightest, where nobody with c places
--                                 fetches fewer than known c: k * known h / (k - h + 1) is least, and of several h the largest
--     Needed fetched n c          c places are the fewest with which fetched says no more than n
--     Says trace k s              what every number of the summary s is
use Rattle.std.specs.Prelude.{◌≡◌, ℕ, ◌+◌, ◌-◌, ◌*◌, ◌/◌, ◌<◌, ◌≤◌, max, List, [], length}
use Rattle.paging.specs.Belady.{belady_fetches, Fewest}
use Rattle.paging.specs.Lru.{lru_fetches}
use Rattle.paging.specs.Stretches.{different}
use Rattle.summary.specs.declared.summaries.Summary.{Summary}

abbrev pub rounded_up : ℕ → ℕ → ℕ
rounded_up a b = (a + (b - 1)) / b

-- fractions compared by cross-multiplication
pub record Tightest (known : ℕ → ℕ) (k h : ℕ) : Type 0 where
  pub low : 1 ≤ h
  pub high : h ≤ k
  pub least : (j : ℕ) → 1 ≤ j → j ≤ k → known h * (k + 1 - j) ≤ known j * (k + 1 - h)
  pub largest : (j : ℕ) → h < j → j ≤ k → known h * (k + 1 - j) < known j * (k + 1 - h)

pub record Needed (fetched : ℕ → ℕ) (n c : ℕ) : Type 0 where
  pub low : 1 ≤ c
  pub enough : fetched c ≤ n
  pub least : (j : ℕ) → 1 ≤ j → j < c → n < fetched j

pub record Says (trace : List ℕ) (k : ℕ) (s : Summary) : Type 0 where
  pub requests_is : s.requests ≡ length trace
  pub different_is : s.different ≡ different trace
  pub places_is : s.places ≡ k
  pub house_is : s.house ≡ lru_fetches k [] trace
  -- some schedule with k places fetches so many, and none fewer
  pub known_is : Fewest k trace s.known
  -- the promise of k places against as many
  pub at_most : s.house ≤ k * s.known
  pub hundredths_is : s.hundredths ≡ rounded_up (100 * s.house) s.known
  pub tight_is : Tightest (λ h. belady_fetches h [] trace) k s.tight
  pub against_is : Fewest s.tight trace s.against
  -- the promise against these, and what it allows
  pub promised : (k + 1 - s.tight) * s.house ≤ k * s.against
  pub allowed_is : s.allowed ≡ k * s.against / (k + 1 - s.tight)
  pub kept : s.house ≤ s.allowed
  pub needed_is : Needed (λ c. lru_fetches c [] trace) s.known s.needed
  -- with as many places as there are pages each is fetched once
  pub few : s.needed ≤ max 1 (different trace)
