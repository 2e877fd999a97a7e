-- The options by their names. Assumes nothing: these are definitions.
--     program_name p      the program as it is called
--     name_of option      how it is written
--     options_of p        those that a program takes
--     find options word   the one that the word names
use Rattle.std.specs.Prelude.{ℕ, List, [], ◌∷◌, codes, Option}
use Rattle.std.specs.List as list
use Rattle.std.specs.Str.{bytes_eq}
use Rattle.options.specs.declared.names.Program.{Program}
use Rattle.options.specs.declared.names.Program.TheVariants.{Play, Challenge}
use Rattle.options.specs.declared.names.Opt.{Opt}
use Rattle.options.specs.declared.names.Opt.TheVariants.{File, Help, Text, Places, Report, Pack, Unpack, Summary, Svg, Rival, Rounds, Policy}

abbrev pub program_name : Program → List ℕ
program_name Play = codes "play"
program_name Challenge = codes "challenge"

abbrev pub name_of : Opt → List ℕ
name_of File = codes "FILE"
name_of Help = codes "--help"
name_of Text = codes "--text"
name_of Places = codes "--places"
name_of Report = codes "--report"
name_of Pack = codes "--pack"
name_of Unpack = codes "--unpack"
name_of Summary = codes "--summary"
name_of Svg = codes "--svg"
name_of Rival = codes "--rival"
name_of Rounds = codes "--rounds"
name_of Policy = codes "--policy"

abbrev pub options_of : Program → List Opt
options_of Play = Help ∷ Text ∷ Places ∷ Report ∷ Pack ∷ Unpack ∷ Summary ∷ Svg ∷ []
options_of Challenge = Help ∷ Places ∷ Rival ∷ Rounds ∷ Policy ∷ Summary ∷ []

abbrev pub find : List Opt → List ℕ → Option Opt
find options word = list.find (λ o. bytes_eq (name_of o) word) options
