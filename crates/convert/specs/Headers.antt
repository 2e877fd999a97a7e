-- The header that a day is played with. Assumes nothing: these are definitions.
--     header_with places report own     what is given, and else what the day's own header says; a day that has none has 40 places, and is
--                                       reported on up to as many
use Rattle.std.specs.Prelude.{ℕ, Some, None, Option}
use Rattle.std.specs.Option.{unwrap_or}
use Rattle.trace.specs.declared.headers.Header.{Header}

abbrev pub header_with : Option ℕ → Option ℕ → Option Header → Header
header_with places report (Some h) = record { capacity = unwrap_or places h.capacity; reported = unwrap_or report h.reported }
header_with places report None = record { capacity = unwrap_or places 40; reported = unwrap_or report (unwrap_or places 40) }
