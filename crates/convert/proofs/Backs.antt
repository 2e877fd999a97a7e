-- The statements of specs/Claims.antt that take more than one lemma. Assumes nothing.
--     there_and_back     whole requests in bytes, as text and in bytes again
--     text_there         what a text names, in bytes
--     claims             these, and the lemmas that the other statements are
use Rattle.std.proofs.Common.{ap, ◌∙◌, arith}
use Rattle.trace.specs.Requests.{requests_in}
use Rattle.text.specs.Texts.{begin}
use Rattle.text.proofs.Pieces.{pages_append, after_append}
use Rattle.convert.specs.Days.{bytes_of}
use Rattle.convert.specs.Claims.{ThereAndBack, TextThere}
use Rattle.convert.proofs.Bytes.{pages_back, bytes_back, small_requests}
use Rattle.convert.proofs.Lines.{small_pages, lines_back, noted_back}

pub there_and_back : ThereAndBack
there_and_back bytes small none = ap bytes_of (lines_back (requests_in bytes) 1 (small_requests bytes small)) ∙ bytes_back bytes small none

pub text_there : TextThere
text_there text = pages_back _ (small_pages begin _ (omega arith, tt))

pub ruleset claims = (pages_append, after_append, lines_back, noted_back, pages_back, there_and_back, text_there)
