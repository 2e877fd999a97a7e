-- Arguments by their places. Assumes nothing: these are definitions.
--     word_at words i          argument i, from 1, where there is one
--     place_at wrong           which argument is at fault, where one is
--     file_named given words   the file that is named; none where standard input is meant, which `-` is too
use Rattle.std.specs.Prelude.{ℕ, ◌-◌, cond, ◌||◌, List, [], length, Some, None, codes, Option, ◌==◌, nat_lt, slice_index_or}
use Rattle.std.specs.Str.{bytes_eq}
use Rattle.options.specs.declared.given.Given.{Given}
use Rattle.options.specs.declared.values.Wrong.{Wrong}
use Rattle.options.specs.declared.values.Wrong.TheVariants.{Unknown, Value, Missing, SecondFile, Together}

abbrev pub word_at : List (List ℕ) → ℕ → Option (List ℕ)
word_at words i = cond (i == 0 || nat_lt (length words) i) None (Some (slice_index_or words (i - 1) []))

abbrev pub place_at : Wrong → Option ℕ
place_at (Unknown i) = Some i
place_at (Value o i) = Some i
place_at (Missing o) = None
place_at (SecondFile i) = Some i
place_at (Together a b) = None

abbrev pub no_dash : Option (List ℕ) → Option (List ℕ)
no_dash None = None
no_dash (Some word) = cond (bytes_eq (codes "-") word) None (Some word)

abbrev pub file_at : List (List ℕ) → Option ℕ → Option (List ℕ)
file_at words None = None
file_at words (Some i) = no_dash (word_at words i)

abbrev pub file_named : Given → List (List ℕ) → Option (List ℕ)
file_named given words = file_at words given.file
