use Rattle.std.proofs.Common.{take}
use Rattle.std.specs.Fmt.{HasWritten, IsPlainFormatter}
use Rattle.traces.specs.Pages.{pages_text}
use Rattle.traces.proofs.pages.PagesDisplay.fmt.Given as goal

abbrev pub invariant-loop-page : goal.invariant-loop-page
invariant-loop-page g l = IsPlainFormatter l.initial.f → HasWritten g.W.Write.write_str_gives l.initial.f (pages_text (take l.page-index l.page-items)) l.f
