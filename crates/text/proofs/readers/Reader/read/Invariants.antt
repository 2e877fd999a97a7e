-- What was written, with what the rest of the piece names, is what the whole piece names; behind it nothing has changed.
use Rattle.std.proofs.Common.{◌≡◌, ◌≤◌, ◌++◌, length, take, drop}
use Rattle.text.specs.Texts.{pages_from, after}
use Rattle.text.specs.Readers.{state_of}
use Rattle.text.proofs.readers.Reader.read.Given as goal

abbrev pub invariant-loop-byte : goal.invariant-loop-byte
invariant-loop-byte l =
    record {
      few : l.count ≤ l.byte-index;
      long : length l.pages ≡ length l.initial.pages;
      written : take l.count l.pages ++ pages_from (state_of l.self) (drop l.byte-index l.piece) ≡ pages_from (state_of l.initial.self) l.piece;
      kept : drop l.count l.pages ≡ drop l.count l.initial.pages;
      known : after (state_of l.self) (drop l.byte-index l.piece) ≡ after (state_of l.initial.self) l.piece;
    }
