-- What is said of a word that is no page. Assumes nothing: these are definitions.
--     shown b              a byte as it is told: itself where it is printable ASCII, and `?` otherwise
--     dots n               `...` where n bytes are more than are told
--     told_word word       the word: its first 40 bytes, and `...` where it has more
--     bad_line line word   `7: 'abc' is not a page number (0 to 4294967295)`
use Rattle.std.specs.Prelude.{ℕ, cond, ◌&&◌, List, ◌++◌, map, length, take, codes, decimal, nat_le, nat_lt}

abbrev pub shown : ℕ → ℕ
shown b = cond (nat_le 32 b && nat_le b 126) b 63

abbrev pub dots : ℕ → List ℕ
dots n = cond (nat_lt 40 n) (codes "...") (codes "")

abbrev pub told_word : List ℕ → List ℕ
told_word word = map shown (take 40 word) ++ dots (length word)

abbrev pub bad_line : ℕ → List ℕ → List ℕ
bad_line line word = decimal line ++ (codes ": '" ++ (told_word word ++ codes "' is not a page number (0 to 4294967295)"))
