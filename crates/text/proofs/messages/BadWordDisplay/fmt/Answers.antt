-- The parts of the line, one after the other.
use Rattle.std.proofs.Common.{append_assoc}
use Rattle.std.proofs.Output.{has_written_of_eq}
use Rattle.std.proofs.lemmas.List.{take_min}
use Rattle.text.proofs.messages.BadWordDisplay.fmt.Goals as goal

pub returns-clause-writes : goal.returns-clause-writes
returns-clause-writes g c =
    λ plain ok. has_written_of_eq _ _ _ _ _ (rw (c.min.ensures, c.dots-more.ensures.value, take_min 40 c.args.self.now.word.now) (simp append_assoc)) (c.write.ensures.writes plain ok)
