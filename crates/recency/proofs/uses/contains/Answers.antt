use Rattle.std.proofs.Common.{sym, ◌∙◌}
use Rattle.recency.proofs.Pages.{page_there}
use Rattle.recency.proofs.uses.contains.Goals as goal

pub returns : goal.returns
returns c =
    let there = page_there _ _ c.requires.sound c.args.page c.probe.result c.probe.ensures.cases in
    record { value = c.is_some.ensures ∙ sym there }
