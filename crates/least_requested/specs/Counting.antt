-- The least requested goes, with counts that a machine holds. Assumes nothing: these are definitions.
--     entry page count               the entry of a page that was requested so often
--     paired pages counts            the entries that two rows hold side by side
--     most                           the largest count, 2^64 - 1: one that comes there stays there
--     served k es page               the entries after a request for page: its count is one more, and of a full cache the page with the least
--                                    count goes, of several the one requested longest ago
--     last_least row                 the last place of the least number
--     DoesFor n k rule policy        policy is the rule for every history of fewer than n requests, and keeps a cache of k places, with no
--                                    page twice, for every history whatever
use Rattle.std.specs.Prelude.{◌≡◌, ℕ, suc, ◌<◌, min, cond, ◌||◌, List, [], ◌∷◌, length, nat_lt, slice_index}
use Rattle.paging.specs.Failing.{Entry, pages_in, count_of, others, fewest, spared}
use Rattle.paging.specs.Lists.{has}
use Rattle.paging.specs.Policies.{Policy}
use Rattle.paging.specs.Rules.{Proper}

abbrev pub entry : ℕ → ℕ → Entry
entry page count = record { page = page; count = count }

unfoldable pub paired : List ℕ → List ℕ → List Entry
paired [] counts = []
paired (page ∷ pages) [] = []
paired (page ∷ pages) (count ∷ counts) = record { page = page; count = count } ∷ paired pages counts

abbrev pub most : ℕ
most = 0xffff_ffff_ffff_ffff

unfoldable pub served : ℕ → List Entry → ℕ → List Entry
served k es page =
    record { page = page; count = min (suc (count_of es page)) most }
    ∷ others page (cond (has (pages_in es) page || nat_lt (length es) k) es (spared (fewest es) es))

unfoldable pub last_least : List ℕ → ℕ
last_least [] = 0
last_least (x ∷ []) = 0
last_least (x ∷ y ∷ ys) = cond (nat_lt x (slice_index (y ∷ ys) (last_least (y ∷ ys)))) 0 (suc (last_least (y ∷ ys)))

pub record DoesFor (n k : ℕ) (rule policy : Policy) : Type 0 where
  pub same : (history : List ℕ) → length history < n → policy history ≡ rule history
  pub proper : Proper k policy
