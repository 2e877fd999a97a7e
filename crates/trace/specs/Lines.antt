-- What a line of the output says, as bytes, without the line break. Assumes nothing: these are definitions.
--     line_bytes line     `1: here`, `1: fetched`, `4: fetched for 2` or `3: house 8 known 6`
use Rattle.std.specs.Prelude.{ℕ, List, ◌++◌, codes, decimal}
use Rattle.trace.specs.declared.lines.Line.{Line}
use Rattle.trace.specs.declared.lines.Line.TheVariants.{Here, Fetched, FetchedFor, Report}

abbrev pub line_bytes : Line → List ℕ
line_bytes (Here page) = decimal page ++ codes ": here"
line_bytes (Fetched page) = decimal page ++ codes ": fetched"
line_bytes (FetchedFor page gone) = decimal page ++ (codes ": fetched for " ++ decimal gone)
line_bytes (Report places house known) = decimal places ++ (codes ": house " ++ (decimal house ++ (codes " known " ++ decimal known)))
