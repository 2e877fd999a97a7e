-- A piece of a text, packed. Assumes nothing.
--     whole_piece     as much is read of it as there is room for
--     named_front     in front stand the bytes of the pages that it names
use Rattle.std.proofs.Common.{◌≡◌, ℕ, ◌*◌, ◌/◌, min, List, ◌++◌, length, take, drop, arith}
use Rattle.std.proofs.lemmas.List.{take_at}
use Rattle.convert.specs.Days.{bytes_of}
use Rattle.convert.proofs.Packed.{length_bytes_of}

module _ (out : List ℕ) (long : length out ≡ 65536) where
  pub whole_piece : min (length out / 4) 16384 ≡ 16384
  whole_piece = omega arith

  pub named_front :
      (out' : List ℕ) (named : ℕ → List ℕ) (r : ℕ) → r ≡ 4 * length (named (min (length out / 4) 16384)) →
      out' ≡ bytes_of (named (min (length out / 4) 16384)) ++ drop r out → take r out' ≡ bytes_of (named 16384)
  named_front out' named r r-is packed =
      let many = rw whole_piece at r-is in
      let bytes = rw whole_piece at packed in
      rw bytes (take_at (bytes_of (named 16384)) (drop r out) r (omega (arith, length_bytes_of (named 16384))))
