-- Words for a trace or a stretch of one. Assumes nothing: these are definitions.
--     last_requested trace seen   the pages of trace and then those of seen, each once, the one requested last first
--     different trace             how many different pages trace requests
--     missing cache trace         the requests of trace for pages that do not stand in cache
use Rattle.std.specs.Prelude.{ℕ, suc, cond, List, [], ◌∷◌}
use Rattle.paging.specs.Lists.{has, without}

unfoldable pub last_requested : List ℕ → List ℕ → List ℕ
last_requested [] seen = seen
last_requested (page ∷ trace) seen = last_requested trace (page ∷ without page seen)

unfoldable pub different : List ℕ → ℕ
different [] = 0
different (page ∷ trace) = cond (has trace page) (different trace) (suc (different trace))

unfoldable pub missing : List ℕ → List ℕ → List ℕ
missing cache [] = []
missing cache (page ∷ trace) = cond (has cache page) (missing cache trace) (page ∷ missing cache trace)
