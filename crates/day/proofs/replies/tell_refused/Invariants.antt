-- What is said so far, with the lines that are left, is what the whole trace comes to.
use Rattle.std.proofs.Common.{◌≡◌, ◌-◌, ◌++◌, length, drop, replicate, Err, string_bytes}
use Rattle.day.specs.Said.{lines_of}
use Rattle.day.proofs.replies.tell_refused.Given as goal

abbrev pub invariant-loop : goal.invariant-loop
invariant-loop l =
    string_bytes l.text ++ lines_of (drop l.index l.trace) (replicate (length l.trace - l.index) (Err l.refusal))
    ≡ string_bytes l.initial.text ++ lines_of l.trace (replicate (length l.trace) (Err l.refusal))
