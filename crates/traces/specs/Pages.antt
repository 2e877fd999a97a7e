-- What is printed of pages.
use Rattle.std.specs.Prelude.{ℕ, List, ◌++◌, codes, decimal, flat_map}

-- pages as text, with a blank before each
abbrev pub pages_text : List ℕ → List ℕ
pages_text pages = flat_map (λ page. codes " " ++ decimal page) pages
