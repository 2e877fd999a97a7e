-- What is said so far, with the lines that are left, is what the whole row comes to.
use Rattle.std.proofs.Common.{◌≡◌, ◌++◌, string_bytes}
use Rattle.day.specs.Reports.{row_lines}
use Rattle.day.proofs.Reporting.{pair_lines}
use Rattle.day.proofs.reports.tell_row.Given as goal

abbrev pub invariant-loop-i : goal.invariant-loop-i
invariant-loop-i l =
    string_bytes l.text ++ pair_lines l.i-iterator.count l.i-iterator.iter.a.rest.now l.i-iterator.iter.b.rest.now
    ≡ string_bytes l.initial.text ++ row_lines l.row l.m 0 l.m
