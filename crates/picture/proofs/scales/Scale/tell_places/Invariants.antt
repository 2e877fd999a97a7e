-- What is told so far, with the numbers that are left, is the whole axis.
use Rattle.std.proofs.Common.{◌/◌, ◌++◌, string_bytes}
use Rattle.picture.specs.Pictured.{told, places_piece}
use Rattle.picture.proofs.Joined.{Reached}
use Rattle.picture.proofs.scales.Scale.tell_places.Given as goal

abbrev pub invariant-loop-c : goal.invariant-loop-c
invariant-loop-c l =
    let piece = places_piece l.self.places l.apart in
    let end = l.self.places / l.apart in
    Reached piece end l.c l.apart l.apart (string_bytes l.text) (string_bytes l.initial.text ++ told piece 0 end)
