-- The part of the array that is told is what the bytes request.
use Rattle.std.proofs.Common.{ℕ, List, ◌++◌, string_bytes, ap, ◌∙◌, arith}
use Rattle.convert.specs.Days.{text_of}
use Rattle.convert.proofs.Parts.{piece_decoded}
use Rattle.convert.proofs.pieces.unpack_bytes.Goals as goal

pub returns : goal.returns
returns c =
    let all = piece_decoded _ _ _ _ (omega arith) c.decode-count.ensures.value c.decode-count.ensures.after in
    record { lines = λ ok. c.unpack.ensures.lines ok ∙ ap (λ (l : List ℕ). string_bytes c.args.text.now ++ text_of l) all }
