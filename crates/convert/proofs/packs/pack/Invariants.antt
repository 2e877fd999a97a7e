-- So far the front holds the bytes of the pages before i, and the rest is as it was.
use Rattle.std.proofs.Common.{◌≡◌, ◌*◌, ◌++◌, length, take, drop}
use Rattle.convert.specs.Days.{bytes_of}
use Rattle.convert.proofs.packs.pack.Given as goal

abbrev pub invariant-loop-i : goal.invariant-loop-i
invariant-loop-i l = (length l.out ≡ length l.initial.out) × (l.out ≡ take (4 * l.i) (bytes_of l.pages) ++ drop (4 * l.i) l.initial.out)
