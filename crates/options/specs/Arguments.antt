-- What the arguments of a program mean. Assumes nothing: these are definitions.
--     place_of option       the option's number among all
--     dashed word           it begins as an option does, and is more than `-`
--     names_file word       it can name a file that is written: it is not empty, and does not begin with `-`
--     flag option           an option that takes no value
--     has g o               the option was given
--     detail g              how much is said: the summary alone where it was asked for
--     switched o g          an option that takes no value is given
--     put o n g             the option has the value n
--     with_value o i word g with the value that the option takes from the word, which is argument i: a number within its limits, a policy, or
--                           i where a file is named
--     step p r i word       one argument more
--     apart                 the options of which one is in the other's way
--     settled g             where two options do not go together, that they do not
--     read_from p r i ws    the arguments from i on
--     arguments p ws        all of them
use Rattle.std.specs.Prelude.{ℕ, ◌+◌, Bool, true, false, cond, not, ◌&&◌, ◌||◌, List, [], ◌∷◌, length, is_some, Some, None, Ok, Err, Option, Result, ◌==◌, nat_le}
use Rattle.std.specs.List as list
use Rattle.std.specs.Option.{option_map, option_and_then}
use Rattle.text.specs.Texts.{number_from}
use Rattle.trace.specs.Kinds.{policy_of}
use Rattle.trace.specs.declared.details.Detail.{Detail}
use Rattle.trace.specs.declared.details.Detail.TheVariants as details
use Rattle.trace.specs.declared.kinds.PolicyKind.{PolicyKind}
use Rattle.options.specs.Names.{options_of, find}
use Rattle.options.specs.declared.given.Given.{Given}
use Rattle.options.specs.declared.names.Program.{Program}
use Rattle.options.specs.declared.names.Opt.{Opt}
use Rattle.options.specs.declared.names.Opt.TheVariants.{File, Help, Text, Places, Report, Pack, Unpack, Summary, Svg, Rival, Rounds, Policy}
use Rattle.options.specs.declared.reading.Reading.{Reading}
use Rattle.options.specs.declared.values.Wrong.{Wrong}
use Rattle.options.specs.declared.values.Wrong.TheVariants.{Unknown, Value, Missing, SecondFile, Together}

abbrev pub place_of : Opt → ℕ
place_of File = 0
place_of Help = 1
place_of Text = 2
place_of Places = 3
place_of Report = 4
place_of Pack = 5
place_of Unpack = 6
place_of Summary = 7
place_of Svg = 8
place_of Rival = 9
place_of Rounds = 10
place_of Policy = 11

abbrev pub dashed : List ℕ → Bool
dashed [] = false
dashed (a ∷ []) = false
dashed (a ∷ b ∷ rest) = a == 45

abbrev pub names_file : List ℕ → Bool
names_file [] = false
names_file (a ∷ rest) = not (a == 45)

abbrev pub flag : Opt → Bool
flag File = true
flag Help = true
flag Text = true
flag Places = false
flag Report = false
flag Pack = true
flag Unpack = true
flag Summary = true
flag Svg = false
flag Rival = false
flag Rounds = false
flag Policy = false

abbrev pub number_within : ℕ → ℕ → List ℕ → Option ℕ
number_within low high word =
    cond (length word == 0) None (option_and_then (λ n. cond (nat_le low n && nat_le n high) (Some n) None) (number_from 0 word))

abbrev pub none_given : Given
none_given =
    record {
      file = None;
      help = false;
      text = false;
      places = None;
      report = None;
      pack = false;
      unpack = false;
      summary = false;
      svg = None;
      rival = None;
      rounds = None;
      policy = None;
    }

abbrev pub has : Given → Opt → Bool
has g File = is_some g.file
has g Help = g.help
has g Text = g.text
has g Places = is_some g.places
has g Report = is_some g.report
has g Pack = g.pack
has g Unpack = g.unpack
has g Summary = g.summary
has g Svg = is_some g.svg
has g Rival = is_some g.rival
has g Rounds = is_some g.rounds
has g Policy = is_some g.policy

abbrev pub detail : Given → Detail
detail g = cond g.summary details.Summary details.Requests

abbrev pub same : Opt → Opt → Bool
same o p = place_of o == place_of p

abbrev pub switched : Opt → Given → Given
switched o g =
    record {
      file = g.file;
      help = same o Help || g.help;
      text = same o Text || g.text;
      places = g.places;
      report = g.report;
      pack = same o Pack || g.pack;
      unpack = same o Unpack || g.unpack;
      summary = same o Summary || g.summary;
      svg = g.svg;
      rival = g.rival;
      rounds = g.rounds;
      policy = g.policy;
    }

abbrev pub put : Opt → ℕ → Given → Given
put o n g =
    record {
      file = cond (same o File) (Some n) g.file;
      help = g.help;
      text = g.text;
      places = cond (same o Places) (Some n) g.places;
      report = cond (same o Report) (Some n) g.report;
      pack = g.pack;
      unpack = g.unpack;
      summary = g.summary;
      svg = cond (same o Svg) (Some n) g.svg;
      rival = cond (same o Rival) (Some n) g.rival;
      rounds = cond (same o Rounds) (Some n) g.rounds;
      policy = g.policy;
    }

abbrev pub put_policy : PolicyKind → Given → Given
put_policy kind g =
    record {
      file = g.file;
      help = g.help;
      text = g.text;
      places = g.places;
      report = g.report;
      pack = g.pack;
      unpack = g.unpack;
      summary = g.summary;
      svg = g.svg;
      rival = g.rival;
      rounds = g.rounds;
      policy = Some kind;
    }

abbrev pub with_value : Opt → ℕ → List ℕ → Given → Option Given
with_value File i word g = None
with_value Help i word g = None
with_value Text i word g = None
with_value Places i word g = option_map (λ n. put Places n g) (number_within 1 4096 word)
with_value Report i word g = option_map (λ n. put Report n g) (number_within 1 4096 word)
with_value Pack i word g = None
with_value Unpack i word g = None
with_value Summary i word g = None
with_value Svg i word g = cond (names_file word) (Some (put Svg i g)) None
with_value Rival i word g = option_map (λ n. put Rival n g) (number_within 1 4096 word)
with_value Rounds i word g = option_map (λ n. put Rounds n g) (number_within 0 65535 word)
with_value Policy i word g = option_map (λ kind. put_policy kind g) (policy_of word)

abbrev pub took : Opt → ℕ → Option Given → Result Reading Wrong
took o i None = Err (Value o i)
took o i (Some g) = Ok (record { given = g; awaits = None })

abbrev pub named : Reading → ℕ → List ℕ → Option Opt → Result Reading Wrong
named r i word (Some o) = Ok (cond (flag o) (record { given = switched o r.given; awaits = None }) (record { given = r.given; awaits = Some o }))
named r i word None =
    cond (dashed word) (Err (Unknown i))
    (cond (is_some r.given.file) (Err (SecondFile i)) (Ok (record { given = put File i r.given; awaits = None })))

abbrev pub step_at : Program → Reading → ℕ → List ℕ → Option Opt → Result Reading Wrong
step_at p r i word (Some o) = took o i (with_value o i word r.given)
step_at p r i word None = named r i word (find (options_of p) word)

abbrev pub step : Program → Reading → ℕ → List ℕ → Result Reading Wrong
step p r i word = step_at p r i word r.awaits

abbrev pub both : Given → Opt × Opt → Bool
both g pair = has g pair.0 && has g pair.1

abbrev pub apart : List (Opt × Opt)
apart = (Unpack, Pack) ∷ (Unpack, Text) ∷ (Unpack, Summary) ∷ (Unpack, Svg) ∷ (Pack, Summary) ∷ (Pack, Svg) ∷ []

abbrev pub settled : Given → Result Given Wrong
settled g = elim (list.find (both g) apart) [ None ↦ Ok g | Some pair ↦ Err (Together pair.0 pair.1) ]

abbrev pub ended : Reading → Option Opt → Result Given Wrong
ended r (Some o) = Err (Missing o)
ended r None = settled r.given

unfoldable pub read_from : Program → Reading → ℕ → List (List ℕ) → Result Given Wrong
read_from p r i [] = ended r r.awaits
read_from p r i (word ∷ words) = elim (step p r i word) [ Ok r' ↦ read_from p r' (i + 1) words | Err e ↦ Err e ]

abbrev pub arguments : Program → List (List ℕ) → Result Given Wrong
arguments p words = read_from p (record { given = none_given; awaits = None }) 1 words
