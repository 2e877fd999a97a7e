-- A day in bytes and as text. Assumes nothing: these are definitions.
--     page_bytes page      a page in four bytes, low byte first
--     bytes_of pages       the pages one after the other
--     text_of pages        a line for each page
--     header_line h        `# places 40 report 10`, a comment
use Rattle.std.specs.Prelude.{ℕ, ◌/◌, ◌%◌, List, [], ◌∷◌, ◌++◌, codes, decimal}
use Rattle.trace.specs.declared.headers.Header.{Header}

abbrev pub page_bytes : ℕ → List ℕ
page_bytes page = page % 256 ∷ page / 256 % 256 ∷ page / 65536 % 256 ∷ page / 16777216 % 256 ∷ []

unfoldable pub bytes_of : List ℕ → List ℕ
bytes_of [] = []
bytes_of (page ∷ pages) = page_bytes page ++ bytes_of pages

unfoldable pub text_of : List ℕ → List ℕ
text_of [] = []
text_of (page ∷ pages) = decimal page ++ (10 ∷ text_of pages)

abbrev pub header_line : Header → List ℕ
header_line h = codes "# places " ++ (decimal h.capacity ++ (codes " report " ++ (decimal h.reported ++ (10 ∷ []))))
