-- The arguments that are left, with what is read so far, come to what all of them come to.
use Rattle.std.proofs.Common.{◌≡◌, ◌+◌, map, drop, string_bytes}
use Rattle.options.specs.Arguments.{read_from, arguments}
use Rattle.options.proofs.given.Given.read.Given as goal

abbrev pub invariant-loop-i : goal.invariant-loop-i
invariant-loop-i l = read_from l.program l.reading (l.i + 1) (map string_bytes (drop l.i l.words)) ≡ arguments l.program (map string_bytes l.words)
