-- What is said so far, with the lines of the requests that are left, is what the whole trace comes to.
use Rattle.std.proofs.Common.{◌≡◌, ◌++◌, map, Ok, string_bytes}
use Rattle.day.specs.Said.{lines_of}
use Rattle.day.proofs.replies.tell.Given as goal

abbrev pub invariant-loop-page : goal.invariant-loop-page
invariant-loop-page l =
    string_bytes l.text ++ lines_of l.page-iterator.a.rest.now (map Ok l.page-iterator.b.rest.now)
    ≡ string_bytes l.initial.text ++ lines_of l.trace (map Ok l.found)
