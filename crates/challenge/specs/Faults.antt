-- What is told of a fault. Assumes nothing: these are definitions.
--     told_bytes name f    what is told of a fault in the input of that name, as bytes; nothing is said of an error of the system, whose text is its
--                          own
use Rattle.std.specs.Prelude.{ℕ, List, ◌++◌, Some, None, Option, codes, decimal}
use Rattle.contest.specs.declared.faults.Fault.TheVariants as contest
use Rattle.challenge.specs.declared.faults.Fault.{Fault}
use Rattle.challenge.specs.declared.faults.Fault.TheVariants.{Input, Short, Long, Contest, Output}

abbrev pub told_bytes : List ℕ → Fault → Option (List ℕ)
told_bytes name (Input e) = None
told_bytes name (Short n) = Some (codes "challenge: " ++ (name ++ (codes " ends after " ++ (decimal n ++ codes " of 7 bytes"))))
told_bytes name Long = Some (codes "challenge: " ++ (name ++ codes " goes on after 7 bytes"))
told_bytes name (Contest (contest.NoPolicy policy)) =
    Some (codes "challenge: " ++ (name ++ (codes " asks for policy " ++ (decimal policy ++ codes " in byte 7: there are 0, 1 and 2"))))
told_bytes name (Contest (contest.Refused e)) = Some (codes "challenge: " ++ (name ++ codes " is refused"))
told_bytes name (Contest (contest.Output e)) = None
told_bytes name (Contest contest.Memory) = Some (codes "challenge: out of memory")
told_bytes name (Output e) = None
