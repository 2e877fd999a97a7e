-- What the requests of a trace find. Assumes nothing: these are definitions.
--     fetches_of o              how many fetches the outcome stands for
--     outcomes k cache trace    the outcomes of the requests of trace, one after the other, where the cache of capacity k holds the
--                               pages of the list
use Rattle.std.specs.Prelude.{ℕ, List, [], ◌∷◌}
use Rattle.paging.specs.Lru.{lru}
use Rattle.recency.specs.Outcome.{outcome}
use Rattle.recency.specs.declared.uses.Outcome.{Outcome}
use Rattle.recency.specs.declared.uses.Outcome.TheVariants.{Hit, Filled, Evicted}

abbrev pub fetches_of : Outcome → ℕ
fetches_of Hit = 0
fetches_of Filled = 1
fetches_of (Evicted page) = 1

unfoldable pub outcomes : ℕ → List ℕ → List ℕ → List Outcome
outcomes k cache [] = []
outcomes k cache (page ∷ trace) = outcome k cache page ∷ outcomes k (lru k cache page) trace
