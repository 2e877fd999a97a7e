-- What the report says. Assumes nothing: these are definitions.
--     row_lines row m c n           the lines of a report's row for m capacities: those of capacities c + 1, c + 2 .., n of them
--     counts_lines trace c n        for capacities c + 1, c + 2 .., n of them, what LRU fetches on the trace, and the fewest possible
--     refused_line e                the one line where there is no report
--     report_of trace total m       what is said after `total` requests on capacities 1 to m; trace are all of them, or the first 4,096
use Rattle.std.specs.Prelude.{ℕ, zero, suc, ◌+◌, cond, List, [], ◌∷◌, ◌++◌, nat_lt, slice_index}
use Rattle.paging.specs.Belady.{belady_fetches}
use Rattle.paging.specs.Lru.{lru_fetches}
use Rattle.lru_cache.specs.Refusals.{refusal_bytes}
use Rattle.lru_cache.specs.declared.refusals.Refusal.{Refusal}
use Rattle.lru_cache.specs.declared.refusals.Refusal.TheVariants.{LongTrace, BadCapacities}
use Rattle.trace.specs.Lines.{line_bytes}
use Rattle.trace.specs.declared.lines.Line.TheVariants.{Report}
use Rattle.day.specs.Said.{is_capacity}

unfoldable pub row_lines : List ℕ → ℕ → ℕ → ℕ → List ℕ
row_lines row m c zero = []
row_lines row m c (suc n) = line_bytes (Report (c + 1) (slice_index row c) (slice_index row (m + c))) ++ (10 ∷ row_lines row m (c + 1) n)

unfoldable pub counts_lines : List ℕ → ℕ → ℕ → List ℕ
counts_lines trace c zero = []
counts_lines trace c (suc n) =
    line_bytes (Report (c + 1) (lru_fetches (c + 1) [] trace) (belady_fetches (c + 1) [] trace)) ++ (10 ∷ counts_lines trace (c + 1) n)

abbrev pub refused_line : Refusal → List ℕ
refused_line e = refusal_bytes e ++ (10 ∷ [])

unfoldable pub report_of : List ℕ → ℕ → ℕ → List ℕ
report_of trace total m =
    cond (nat_lt 4096 total) (refused_line (LongTrace total)) (cond (is_capacity m) (counts_lines trace 0 m) (refused_line (BadCapacities m)))
