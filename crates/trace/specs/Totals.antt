-- What the last line of a challenge says, as bytes, without the line break. Assumes nothing: these are definitions.
--     totals_bytes totals     `asked 30 keeper 30 rival 12`
use Rattle.std.specs.Prelude.{ℕ, List, ◌++◌, codes, decimal}
use Rattle.trace.specs.declared.totals.Totals.{Totals}

abbrev pub totals_bytes : Totals → List ℕ
totals_bytes t =
    codes "asked " ++ (decimal t.asked ++ (codes " keeper " ++ (decimal t.keeper ++ (codes " rival " ++ decimal t.rival))))
