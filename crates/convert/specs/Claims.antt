-- That the way from bytes to text and back, and from text to bytes and back, gives the same day. Assumes nothing: these are statements, and
-- `there_and_back_stands` says that they hold.
--     Below n xs         every number of xs is below n
--     InPieces          two pieces of a text, one after the other, name what the whole names, and leave a reader where the whole does
--     TextBack          the text of pages names the same pages, also behind a header's line
--     BytesBack         so do their bytes
--     HeaderBack        the bytes of a header whose numbers have two bytes each are that header
--     ThereAndBack     bytes that are whole requests, as text and in bytes again, are the same bytes
--     TextThere         the pages that a text names are requested by their bytes
use Rattle.std.specs.Prelude.{◌≡◌, ℕ, ◌^◌, ◌<◌, List, [], ◌∷◌, ◌++◌, Some}
use Rattle.trace.specs.Headers.{header_of, header_bytes}
use Rattle.trace.specs.Requests.{requests_in, left_over}
use Rattle.trace.specs.declared.headers.Header.{Header}
use Rattle.text.specs.Texts.{State, pages_from, after, pages_in}
use Rattle.convert.specs.Days.{bytes_of, text_of, header_line}

abbrev pub Below : ℕ → List ℕ → Type 0
Below n [] = Unit {0}
Below n (x ∷ xs) = (x < n) × Below n xs

abbrev pub InPieces : Type 0
InPieces =
    (s : State) (xs ys : List ℕ) → (pages_from s (xs ++ ys) ≡ pages_from s xs ++ pages_from (after s xs) ys) × (after s (xs ++ ys) ≡ after (after s xs) ys)

abbrev pub TextBack : Type 0
TextBack = (pages : List ℕ) (h : Header) → Below (2 ^ 32) pages → (pages_in (text_of pages) ≡ pages) × (h.capacity < 2 ^ 64 → h.reported < 2 ^ 64 → pages_in (header_line h ++ text_of pages) ≡ pages)

abbrev pub BytesBack : Type 0
BytesBack = (pages : List ℕ) → Below (2 ^ 32) pages → requests_in (bytes_of pages) ≡ pages

abbrev pub HeaderBack : Type 0
HeaderBack = (h : Header) (rest : List ℕ) → h.capacity < 2 ^ 16 → h.reported < 2 ^ 16 → header_of (header_bytes h ++ rest) ≡ Some h

abbrev pub ThereAndBack : Type 0
ThereAndBack = (bytes : List ℕ) → Below 256 bytes → left_over bytes ≡ [] → bytes_of (pages_in (text_of (requests_in bytes))) ≡ bytes

abbrev pub TextThere : Type 0
TextThere = (text : List ℕ) → requests_in (bytes_of (pages_in text)) ≡ pages_in text
