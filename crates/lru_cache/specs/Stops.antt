-- What is printed of a stop. Assumes nothing: this is a definition.
--     stop_bytes s    as bytes: what is printed of the refusal, or `out of memory`
use Rattle.std.specs.Prelude.{ℕ, List, codes}
use Rattle.lru_cache.specs.Refusals.{refusal_bytes}
use Rattle.lru_cache.specs.declared.stops.Stop.{Stop}
use Rattle.lru_cache.specs.declared.stops.Stop.TheVariants.{Refused, Memory}

abbrev pub stop_bytes : Stop → List ℕ
stop_bytes (Refused e) = refusal_bytes e
stop_bytes Memory = codes "out of memory"
