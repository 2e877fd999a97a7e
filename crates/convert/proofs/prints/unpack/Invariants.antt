-- What is said so far, with the lines that are left, is what all pages come to.
use Rattle.std.proofs.Common.{◌≡◌, ◌++◌, drop, string_bytes}
use Rattle.convert.specs.Days.{text_of}
use Rattle.convert.proofs.prints.unpack.Given as goal

abbrev pub invariant-loop-page : goal.invariant-loop-page
invariant-loop-page l = string_bytes l.text ++ text_of (drop l.page-index l.pages) ≡ string_bytes l.initial.text ++ text_of l.pages
