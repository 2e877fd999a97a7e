-- Each piece is written as its definition has it.
use Rattle.picture.proofs.shapes.ShapeDisplay.fmt.Goals as goal

pub returns-in-Fetches-clause-writes : goal.returns-in-Fetches-clause-writes
returns-in-Fetches-clause-writes g c = rw c.in-Fetches.is c.writeln.ensures.writes

pub returns-in-Places-clause-writes : goal.returns-in-Places-clause-writes
returns-in-Places-clause-writes g c = rw c.in-Places.is c.writeln-in-Places.ensures.writes

pub returns-in-Mark-clause-writes : goal.returns-in-Mark-clause-writes
returns-in-Mark-clause-writes g c = rw c.in-Mark.is c.writeln-in-Mark.ensures.writes
