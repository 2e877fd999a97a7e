-- Requests as bytes: four each, low byte first. Assumes nothing: these are definitions.
--     page_of a b c d       the page that four bytes name
--     requests_in bytes     the pages that the bytes request, four bytes after four; what is left over requests nothing
--     left_over bytes       what is left over: none to three bytes
use Rattle.std.specs.Prelude.{ℕ, ◌+◌, ◌*◌, List, [], ◌∷◌}

abbrev pub page_of : ℕ → ℕ → ℕ → ℕ → ℕ
page_of a b c d = a + 256 * b + 65536 * c + 16777216 * d

unfoldable pub requests_in : List ℕ → List ℕ
requests_in [] = []
requests_in (a ∷ []) = []
requests_in (a ∷ b ∷ []) = []
requests_in (a ∷ b ∷ c ∷ []) = []
requests_in (a ∷ b ∷ c ∷ d ∷ rest) = page_of a b c d ∷ requests_in rest

unfoldable pub left_over : List ℕ → List ℕ
left_over [] = []
left_over (a ∷ []) = a ∷ []
left_over (a ∷ b ∷ []) = a ∷ b ∷ []
left_over (a ∷ b ∷ c ∷ []) = a ∷ b ∷ c ∷ []
left_over (a ∷ b ∷ c ∷ d ∷ rest) = left_over rest
