-- The header of a trace: two numbers of two bytes each, low byte first. Assumes nothing: these are definitions.
--     header_of bytes     the header that the bytes begin with, where they are four or more
--     header_bytes h      the four bytes of a header, of each number the two low ones
use Rattle.std.specs.Prelude.{ℕ, ◌+◌, ◌*◌, ◌/◌, ◌%◌, List, [], ◌∷◌, Some, None, Option}
use Rattle.trace.specs.declared.headers.Header.{Header}

abbrev pub header_of : List ℕ → Option Header
header_of [] = None
header_of (a ∷ []) = None
header_of (a ∷ b ∷ []) = None
header_of (a ∷ b ∷ c ∷ []) = None
header_of (a ∷ b ∷ c ∷ d ∷ rest) = Some (record { capacity = a + 256 * b; reported = c + 256 * d })

abbrev pub header_bytes : Header → List ℕ
header_bytes h = h.capacity % 256 ∷ h.capacity / 256 % 256 ∷ h.reported % 256 ∷ h.reported / 256 % 256 ∷ []
