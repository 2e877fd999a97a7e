use Rattle.std.proofs.Common.{arith, rules}
use Rattle.belady.proofs.Halves.{reported}
use Rattle.belady.proofs.reports.report.Goals as goal

pub returns-clause-says : goal.returns-clause-says
returns-clause-says c =
    let checked = c.in_ok-check.ensures.checked in
    reported _ _ _ _ c.args.row.now c.count.new.row c.count-2.new.row (omega arith) (omega arith) checked.long (search rules) (search rules)
    c.count.ensures.fetches c.count-2.ensures.fetches
