-- One row of pages for the offline optimum at every capacity: its first c are what Belady's rule keeps in c places, but for the choice between
-- pages whose next use is equally far. Assumes nothing: these are definitions.
--     sifted coming page carry row     the row with carry sifted down to the place of page, or to the end where page is not there: at each place
--                                      on the way the one with the nearer next use stays and the other is carried on
--     sift row page coming             the row after a request for page, with coming after it: page stands first
--     row_hits c row trace             how many requests of trace find their page among the first c of the row, which begins as given
use Rattle.std.specs.Prelude.{ℕ, ◌+◌, cond, List, [], ◌∷◌, ◌==◌, nat_lt}
use Rattle.paging.specs.Belady.{next_use}
use Rattle.paging.specs.Distance.{found}

unfoldable pub sifted : List ℕ → ℕ → ℕ → List ℕ → List ℕ
sifted coming page carry [] = carry ∷ []
sifted coming page carry (x ∷ xs) =
    cond (x == page) (carry ∷ xs)
    (cond (nat_lt (next_use carry coming) (next_use x coming)) (carry ∷ sifted coming page x xs) (x ∷ sifted coming page carry xs))

unfoldable pub sift : List ℕ → ℕ → List ℕ → List ℕ
sift row page coming = sifted (page ∷ coming) page page row

unfoldable pub row_hits : ℕ → List ℕ → List ℕ → ℕ
row_hits c row [] = 0
row_hits c row (page ∷ coming) = cond (found c page row) 1 0 + row_hits c (sift row page coming) coming
