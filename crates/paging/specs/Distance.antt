-- Stack distance: where a page stands among the pages requested last tells for every capacity at once whether LRU fetches it. A row is a list
-- of pages, each once, of which a cache of c places holds the first c. Assumes nothing: these are definitions.
--     found c page row             page stands among the first c of row
--     stack_hits c stack trace     how many requests of trace find their page among the first c of the stack, which begins as given and has
--                                  at each request the page requested moved to its front
use Rattle.std.specs.Prelude.{ℕ, ◌+◌, Bool, cond, ◌&&◌, List, [], ◌∷◌, nat_lt}
use Rattle.paging.specs.Lists.{has, without, place}

unfoldable pub found : ℕ → ℕ → List ℕ → Bool
found c page row = has row page && nat_lt (place page row) c

unfoldable pub stack_hits : ℕ → List ℕ → List ℕ → ℕ
stack_hits c stack [] = 0
stack_hits c stack (page ∷ trace) = cond (found c page stack) 1 0 + stack_hits c (page ∷ without page stack) trace
