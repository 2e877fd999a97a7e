-- Some number of places is enough, so the first of them is found.
use Rattle.std.proofs.Common.{◌<◌, ◌≤◌, rules, tests}
use Rattle.std.proofs.lemmas.Iterator.{IsFirst-from_position, YieldsList-from_slice}
use Rattle.summary.proofs.Reading.{enough}
use Rattle.summary.proofs.reads.Report.needed.Goals as goal

pub unwrap-requires : goal.unwrap-requires
unwrap-requires c =
    let n = c.args.n in
    let found = IsFirst-from_position _ _ _ (λ x. x ≤ n) (λ x. n < x) c.position-found.ensures.ran (YieldsList-from_slice c.args.self.house.now cc)
    (λ x q k. search (rules, tests)) (λ x q k. search (rules, tests)) in
    enough _ _ _ c.args.self.reports n _ _ c.requires.enough found
