-- First come, first gone. Assumes nothing: this is a definition.
--     fifo k cache page             the cache of k places after a request for page, the page that came last first
use Rattle.std.specs.Prelude.{ℕ, cond, List, ◌∷◌, take}
use Rattle.paging.specs.Lists.{has}

unfoldable pub fifo : ℕ → List ℕ → ℕ → List ℕ
fifo k cache page = cond (has cache page) cache (take k (page ∷ cache))
