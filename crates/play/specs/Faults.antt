-- What is told of a fault. Assumes nothing: these are definitions.
--     input_name file      the file that is read by its name, or `standard input`
--     says_word s f        after a text that the reader in state s has read, a word that is no page is told as it is, where there is memory for it
--     fault_of stop        why there is no picture
--     told_bytes file f    what is told of a fault, as bytes; nothing is said of an error of the system, whose text is its own
use Rattle.std.specs.Prelude.{◌≡◌, ℕ, true, List, ◌++◌, Some, None, Option, codes, decimal, string_bytes}
use Rattle.std.specs.Option.{unwrap_or}
use Rattle.lru_cache.specs.declared.stops.Stop.{Stop}
use Rattle.lru_cache.specs.declared.stops.Stop.TheVariants as stop
use Rattle.picture.specs.Undrawn.{undrawable_bytes}
use Rattle.picture.specs.declared.undrawable.Undrawable.TheVariants.{NoRow}
use Rattle.text.specs.Messages.{bad_line}
use Rattle.text.specs.Texts.{State, is_bad}
use Rattle.play.specs.declared.faults.Fault.{Fault}
use Rattle.play.specs.declared.faults.Fault.TheVariants.{Input, Output, InHeader, InRequest, Word, Picture, NoPicture, Memory}

abbrev pub input_name : Option (List ℕ) → List ℕ
input_name file = unwrap_or file (codes "standard input")

abbrev pub says_word : State → Fault → Type 0
says_word s (Input e) = ⊥
says_word s (Output e) = ⊥
says_word s (InHeader n) = ⊥
says_word s (InRequest n) = ⊥
says_word s (Word said) = (is_bad s ≡ true) × (string_bytes said ≡ bad_line s.line s.told)
says_word s (Picture e) = ⊥
says_word s NoPicture = ⊥
says_word s Memory = Unit {0}

abbrev pub fault_of : Stop → Fault
fault_of (stop.Refused e) = NoPicture
fault_of stop.Memory = Memory

abbrev pub told_bytes : Option (List ℕ) → Fault → Option (List ℕ)
told_bytes file (Input e) = None
told_bytes file (Output e) = None
told_bytes file (InHeader n) = Some (codes "play: " ++ (input_name file ++ (codes " ends inside its header, after " ++ (decimal n ++ codes " of 4 bytes"))))
told_bytes file (InRequest n) = Some (codes "play: " ++ (input_name file ++ (codes " ends inside a request, after request " ++ decimal n)))
told_bytes file (Word said) = Some (input_name file ++ (codes ":" ++ string_bytes said))
told_bytes file (Picture e) = None
told_bytes file NoPicture = Some (codes "play: " ++ undrawable_bytes NoRow)
told_bytes file Memory = Some (codes "play: out of memory")
