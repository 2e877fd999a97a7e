-- What is promised of a cache on two lent rows, for every answer r. Assumes nothing: these are definitions.
--     roomy k n m                      rows of n and m numbers have room for a cache of capacity k
--     Opened k cache index r ..        the rows hold an empty cache of k places now; beyond their lengths they are as they were
--     Answered cache index page r ..   one request was served: what became of it, and the rows
--     Counted cache index trace r ..   a trace was played: how many fetches, the rows, and the bound
--     Untouched e cache index r ..     that was the reason not to, and the rows are as they were
use Rattle.std.specs.Prelude.{◌≡◌, ℕ, ◌+◌, ◌*◌, Bool, ◌&&◌, List, [], drop, Ok, nat_le}
use Rattle.paging.specs.Lru.{lru, lru_fetches, lru_after}
use Rattle.lru_cache.specs.declared.refusals.Refusal.{Refusal}
use Rattle.lru_cache.specs.Rows.{capacity, cached, row_of}
use Rattle.recency.specs.Outcome.{outcome}
use Rattle.lru_cache.specs.Promises.{Indexed, Left, Bounded}
use Rattle.ffi.specs.Numbers.{as_count, as_refusal, as_told}

abbrev pub roomy : ℕ → ℕ → ℕ → Bool
roomy k n m = nat_le 1 k && (nat_le k 4096 && (nat_le (2 + k) n && nat_le (9 * k + 5) m))

pub record Opened (k : ℕ) (cache index : List ℕ) (r : ℕ) (cache' index' : List ℕ) : Type 0 where
  pub value : r ≡ as_count 0
  pub row : cache' ≡ row_of k [] (drop (2 + k) cache)
  pub indexed : Indexed k [] index index'

pub record Answered (cache index : List ℕ) (page r : ℕ) (cache' index' : List ℕ) : Type 0 where
  pub value : r ≡ as_told (Ok (outcome (capacity cache) (cached cache) page))
  pub left : Left (lru (capacity cache) (cached cache) page) cache index cache' index'

pub record Counted (cache index trace : List ℕ) (r : ℕ) (cache' index' : List ℕ) : Type 0 where
  pub value : r ≡ as_count (lru_fetches (capacity cache) (cached cache) trace)
  pub left : Left (lru_after (capacity cache) (cached cache) trace) cache index cache' index'
  pub bounded : Bounded (capacity cache) trace (lru_fetches (capacity cache) (cached cache) trace)

pub record Untouched (e : Refusal) (cache index : List ℕ) (r : ℕ) (cache' index' : List ℕ) : Type 0 where
  pub value : r ≡ as_refusal e
  pub same_cache : cache' ≡ cache
  pub same_index : index' ≡ index
