-- The number so far, with the bytes that are left, is the number of the whole word.
use Rattle.std.proofs.Common.{◌≡◌, drop}
use Rattle.text.specs.Texts.{number_from}
use Rattle.text.proofs.words.number.Given as goal

abbrev pub invariant-loop-byte : goal.invariant-loop-byte
invariant-loop-byte l = number_from l.number (drop l.byte-index l.word) ≡ number_from 0 l.word
