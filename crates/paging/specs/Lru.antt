-- LRU: a cache of k places that evicts the page requested longest ago. Assumes nothing: these are definitions.
--     lru k cache page          the cache after a request for page; a cache is a list, the page requested last first
--     lru_fetches k cache trace how many requests of trace are fetched, beginning with cache
--     lru_after k cache trace   the cache after trace
use Rattle.std.specs.Prelude.{ℕ, suc, cond, List, [], ◌∷◌, take}
use Rattle.paging.specs.Lists.{has, without}

unfoldable pub lru : ℕ → List ℕ → ℕ → List ℕ
lru k cache page = take k (page ∷ without page cache)

unfoldable pub lru_fetches : ℕ → List ℕ → List ℕ → ℕ
lru_fetches k cache [] = 0
lru_fetches k cache (page ∷ trace) =
    cond (has cache page) (lru_fetches k (lru k cache page) trace) (suc (lru_fetches k (lru k cache page) trace))

unfoldable pub lru_after : ℕ → List ℕ → List ℕ → List ℕ
lru_after k cache [] = cache
lru_after k cache (page ∷ trace) = lru_after k (lru k cache page) trace
