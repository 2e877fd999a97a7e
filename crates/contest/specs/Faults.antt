-- What is printed of a fault. Assumes nothing: this is a definition.
--     fault_bytes f    as bytes: what is printed of an unknown policy or of a refusal, or `out of memory`; nothing is said of an error of the system,
--                      whose text is its own
use Rattle.std.specs.Prelude.{ℕ, List, Some, None, Option, codes}
use Rattle.lru_cache.specs.Refusals.{refusal_bytes}
use Rattle.trace.specs.Kinds.{unknown_bytes}
use Rattle.contest.specs.declared.faults.Fault.{Fault}
use Rattle.contest.specs.declared.faults.Fault.TheVariants.{NoPolicy, Refused, Output, Memory}

abbrev pub fault_bytes : Fault → Option (List ℕ)
fault_bytes (NoPolicy number) = Some (unknown_bytes (record { 0 = number }))
fault_bytes (Refused e) = Some (refusal_bytes e)
fault_bytes (Output e) = None
fault_bytes Memory = Some (codes "out of memory")
