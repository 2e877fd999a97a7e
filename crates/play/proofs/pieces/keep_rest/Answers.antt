use Rattle.play.proofs.Moved.{moved_front}
use Rattle.play.proofs.pieces.keep_rest.Goals as goal

pub returns-clause-after : goal.returns-clause-after
returns-clause-after c = moved_front _ _ c.args.n c.requires c.copy_within.ensures.after
