-- What is said of a day.
use Rattle.std.specs.Prelude.{ℕ, List, ◌++◌, codes, decimal}
use Rattle.traces.specs.declared.day.Day.{Day}
use Rattle.traces.specs.Kind.{name}

-- a day as text
abbrev pub text : Day → List ℕ
text day = decimal day.requests ++ (codes " requests over " ++ (decimal day.pages ++ (codes " pages, " ++ name day.kind)))
