use Rattle.std.proofs.Common.{take}
use Rattle.belady.specs.Sifts.{Carried}
use Rattle.belady.proofs.sifts.sift.Given as goal

abbrev pub invariant-loop-k : goal.invariant-loop-k
invariant-loop-k l = Carried l.trace l.i (take l.n l.initial.pages) l.pages l.keys l.n l.k l.carry l.key
