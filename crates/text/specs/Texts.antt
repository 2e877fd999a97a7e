-- Which pages a text names: numbers below 2^32 between blanks and line breaks; `#` and what follows it in its line is passed over. Assumes
-- nothing: these are definitions.
--     State               what is known after some of a text
--     begin               before its first byte
--     with_digit n b      the number n with one byte more: none where the byte is no digit, or the number is 2^32 or more
--     number_from n word  and with all the bytes of a word: from 0, the number that the word is, where it is a page
--     ends_mark word b    the word and b are the mark that some programs write in front of a text in UTF-8, 239 187 191
--     longer s b          the word goes on
--     with_byte s b       likewise, but that the mark in front of a word is passed over
--     page_of s           the page that the word is, where it ends and is one
--     end_word s l m      the word ends, and line l follows, in words or in a comment; a word that is no page is kept, and nothing more is read
--     blank b             b is a space, a tab or a carriage return
--     page_at s b         the page that byte b ends
--     step s b            after one byte more
--     is_bad s            a word ended that is no page
--     pages_from s text   the pages that the text goes on to name, up to the first word that is none
--     after s text        and what is known then
--     pages_in text       the pages of a whole text; its last line may lack its line break
use Rattle.std.specs.Prelude.{ℕ, ◌+◌, ◌-◌, ◌*◌, ◌^◌, min, Bool, true, false, cond, ◌&&◌, ◌||◌, List, [], ◌∷◌, ◌++◌, length, take, Some, None, Option, ◌==◌, nat_le, nat_lt}
use Rattle.std.specs.Option.{is_none, option_and_then, option_to_list}
use Rattle.text.specs.declared.readers.Mode.{Mode}
use Rattle.text.specs.declared.readers.Mode.TheVariants.{Words, Comment, Bad}

pub record State : Type 0 where
  -- the number of the line; one of 2^64 and more is not told apart
  pub line : ℕ
  -- what is read: words, a comment, or nothing more where a word ended that is no page: it is the one that is told
  pub mode : Mode
  -- the first 41 bytes of the word that was begun, and the page that all its bytes are
  pub told : List ℕ
  pub value : Option ℕ

abbrev pub begin : State
begin = record { line = 1; mode = Words; told = []; value = Some 0 }

abbrev pub with_digit : ℕ → ℕ → Option ℕ
with_digit n b = cond (nat_le 48 b && (nat_le b 57 && nat_lt (10 * n + (b - 48)) 4294967296)) (Some (10 * n + (b - 48))) None

abbrev pub number_from : ℕ → List ℕ → Option ℕ
number_from n [] = Some n
number_from n (b ∷ word) = option_and_then (λ m. number_from m word) (with_digit n b)

abbrev pub ends_mark : List ℕ → ℕ → Bool
ends_mark [] b = false
ends_mark (first ∷ []) b = false
ends_mark (first ∷ second ∷ []) b = b == 191 && (first == 239 && second == 187)
ends_mark (first ∷ second ∷ third ∷ word) b = false

abbrev pub longer : State → ℕ → State
longer s b =
    record {
      line = s.line;
      mode = s.mode;
      told = take 41 (s.told ++ (b ∷ []));
      value = option_and_then (λ n. with_digit n b) s.value;
    }

abbrev pub with_byte : State → ℕ → State
with_byte s b = cond (ends_mark s.told b) (record { line = s.line; mode = s.mode; told = []; value = Some 0 }) (longer s b)

abbrev pub page_of : State → Option ℕ
page_of s = cond (length s.told == 0) None s.value

abbrev pub end_word : State → ℕ → Mode → State
end_word s line mode =
    cond (nat_lt 0 (length s.told) && is_none s.value)
    (record { line = s.line; mode = Bad; told = s.told; value = s.value })
    (record { line = line; mode = mode; told = []; value = Some 0 })

abbrev pub blank : ℕ → Bool
blank b = b == 32 || (b == 9 || b == 13)

abbrev pub next_line : State → ℕ
next_line s = min (s.line + 1) (2 ^ 64 - 1)

abbrev pub page_in : Mode → State → ℕ → Option ℕ
page_in Words s b = cond (b == 10 || (b == 35 || blank b)) (page_of s) None
page_in Comment s b = cond (b == 10) (page_of s) None
page_in Bad s b = None

abbrev pub page_at : State → ℕ → Option ℕ
page_at s b = page_in s.mode s b

abbrev pub step_in : Mode → State → ℕ → State
step_in Words s b =
    cond (b == 10) (end_word s (next_line s) Words)
    (cond (b == 35) (end_word s s.line Comment)
    (cond (blank b) (end_word s s.line Words) (with_byte s b)))
step_in Comment s b = cond (b == 10) (end_word s (next_line s) Words) s
step_in Bad s b = s

abbrev pub step : State → ℕ → State
step s b = step_in s.mode s b

abbrev pub bad_in : Mode → Bool
bad_in Words = false
bad_in Comment = false
bad_in Bad = true

abbrev pub is_bad : State → Bool
is_bad s = bad_in s.mode

unfoldable pub pages_from : State → List ℕ → List ℕ
pages_from s [] = []
pages_from s (b ∷ text) = option_to_list (page_at s b) ++ pages_from (step s b) text

unfoldable pub after : State → List ℕ → State
after s [] = s
after s (b ∷ text) = after (step s b) text

abbrev pub pages_in : List ℕ → List ℕ
pages_in text = pages_from begin (text ++ (10 ∷ []))
