-- What is said of wrong arguments. Assumes nothing: these are definitions.
--     wants option             what it takes for a value
--     word_of wrong words      the argument at fault, and no byte where none is
--     wrong_line p wrong word  what is said, without the line break; word is the argument at fault
use Rattle.std.specs.Prelude.{ℕ, cond, List, [], ◌++◌, codes, decimal, ◌==◌}
use Rattle.std.specs.Option.{option_and_then, unwrap_or}
use Rattle.options.specs.Names.{program_name, name_of}
use Rattle.options.specs.Places.{word_at, place_at}
use Rattle.options.specs.declared.names.Program.{Program}
use Rattle.options.specs.declared.names.Opt.{Opt}
use Rattle.options.specs.declared.names.Opt.TheVariants.{File, Help, Text, Places, Report, Pack, Unpack, Summary, Svg, Rival, Rounds, Policy}
use Rattle.options.specs.declared.values.Wrong.{Wrong}
use Rattle.options.specs.declared.values.Wrong.TheVariants.{Unknown, Value, Missing, SecondFile, Together}

abbrev pub wants : Opt → List ℕ
wants File = codes "no value"
wants Help = codes "no value"
wants Text = codes "no value"
wants Places = codes "a number from 1 to " ++ decimal 4096
wants Report = codes "a number from 1 to " ++ decimal 4096
wants Pack = codes "no value"
wants Unpack = codes "no value"
wants Summary = codes "no value"
wants Svg = codes "a file name"
wants Rival = codes "a number from 1 to " ++ decimal 4096
wants Rounds = codes "a number from 0 to " ++ decimal 65535
wants Policy = codes "lru, fifo or lfu"

abbrev pub word_of : Wrong → List (List ℕ) → List ℕ
word_of wrong words = unwrap_or (option_and_then (word_at words) (place_at wrong)) []

-- two arguments where one is wanted, or two files among options
abbrev pub at_most_one : ℕ → List ℕ
at_most_one i = cond (i == 2) (codes "argument") (codes "file")

abbrev pub wrong_line : Program → Wrong → List ℕ → List ℕ
wrong_line p (Unknown i) word = program_name p ++ (codes ": unknown option '" ++ (word ++ (codes "' (see " ++ (program_name p ++ codes " --help)"))))
wrong_line p (Value o i) word = program_name p ++ (codes ": " ++ (name_of o ++ (codes " needs " ++ (wants o ++ (codes ", not '" ++ (word ++ codes "'"))))))
wrong_line p (Missing o) word = program_name p ++ (codes ": " ++ (name_of o ++ (codes " needs " ++ wants o)))
wrong_line p (SecondFile i) word =
    program_name p ++ (codes ": argument " ++ (decimal i ++ (codes ": there may be one " ++ (at_most_one i ++ codes " at most"))))
wrong_line p (Together a b) word = program_name p ++ (codes ": " ++ (name_of a ++ (codes " does not go with " ++ name_of b)))
