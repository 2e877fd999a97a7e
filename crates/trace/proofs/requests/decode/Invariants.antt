-- So far the front of the pages is what the bytes request, and the rest is as it was.
use Rattle.std.proofs.Common.{◌≡◌, ◌++◌, length, take, drop}
use Rattle.trace.specs.Requests.{requests_in}
use Rattle.trace.proofs.requests.decode.Given as goal

abbrev pub invariant-loop-i : goal.invariant-loop-i
invariant-loop-i l = (length l.page-items ≡ l.count) × (l.page-items ≡ take l.i (requests_in l.bytes) ++ drop l.i l.initial.page-items)
