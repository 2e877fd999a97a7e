-- What is told so far, with the numbers that are left, is the whole axis.
use Rattle.std.proofs.Common.{◌+◌, ◌/◌, ◌++◌, string_bytes}
use Rattle.picture.specs.Pictured.{told, fetches_piece}
use Rattle.picture.proofs.Joined.{Reached}
use Rattle.picture.proofs.scales.Scale.tell_fetches.Given as goal

abbrev pub invariant-loop-n : goal.invariant-loop-n
invariant-loop-n l =
    let piece = fetches_piece l.self.top l.self.apart in
    let end = l.self.top / l.self.apart + 1 in
    Reached piece end l.n 0 l.self.apart (string_bytes l.text) (string_bytes l.initial.text ++ told piece 0 end)
