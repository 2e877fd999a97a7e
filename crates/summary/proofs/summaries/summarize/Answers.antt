-- A trace that was checked is reported on.
use Rattle.std.proofs.Common.{◌≡◌, length, arith}
use Rattle.summary.proofs.Reading.{halves, never_refused}
use Rattle.summary.proofs.summaries.summarize.Goals as goal

pub invariant_of-report : goal.invariant_of-report
invariant_of-report c =
    let long : length c.report.new.row ≡ 8192 = omega arith in
    record {
      reports = rw (c.split_at.ensures.front, c.split_at.ensures.back)
          (halves _ _ _ c.in_ok-check.ensures.checked.short long c.in_ok-report.ensures.says);
    }

pub returns-in_err-report : goal.returns-in_err-report
returns-in_err-report c =
    let checked = c.in_ok-check.ensures.checked in
    let z = never_refused _ _ _ checked.short checked.none c.in_err-report.ensures.refused in
    absurd z
