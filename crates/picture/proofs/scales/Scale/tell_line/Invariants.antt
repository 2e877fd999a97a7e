-- What is told so far, with the steps that are left, is the whole line.
use Rattle.std.proofs.Common.{◌≡◌, ◌-◌, ◌++◌, get_or, string_bytes}
use Rattle.picture.specs.Pictured.{told, steps_piece}
use Rattle.picture.specs.Scaled.{height}
use Rattle.picture.proofs.scales.Scale.tell_line.Given as goal

abbrev pub invariant-loop-c : goal.invariant-loop-c
invariant-loop-c l =
    record {
      so_far : string_bytes l.text ++ told (steps_piece l.fetches l.self.top l.self.places) l.c (l.self.places - l.c)
          ≡ string_bytes l.initial.text ++ told (steps_piece l.fetches l.self.top l.self.places) 0 l.self.places;
      before_is : l.before ≡ height l.self.top (get_or l.fetches (l.c - 1) 0);
    }
