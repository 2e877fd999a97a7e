use Rattle.std.proofs.Common.{◌∙◌}
use Rattle.picture.proofs.Bounded.{top_is}
use Rattle.picture.proofs.scales.top.Goals as goal

pub returns-clause-value : goal.returns-clause-value
returns-clause-value c = c.next_multiple_of.ensures.value ∙ top_is c.args.n _ _ c.step.ensures.low c.step.ensures.value c.max.ensures
