use Rattle.std.proofs.Common.{ℕ, ◌≤◌, ◌*◌, List, ◌++◌, string_bytes, sym, ap, ◌∙◌, arith}
use Rattle.day.proofs.Reporting.{long_report, row_room, made_report, no_report}
use Rattle.day.proofs.reports.tell_report.Goals as goal

pub returns-then-total : goal.returns-then-total
returns-then-total c =
    let text = string_bytes c.args.text.now in
    record { lines = λ ok. c.tell_refusal.ensures.lines ok ∙ ap (λ (ls : List ℕ). text ++ ls) (sym (long_report _ c.args.total c.args.m c.if-total.true)) }

pub tell_row-requires : goal.tell_row-requires
tell_row-requires c =
    let room : 2 * c.args.m ≤ 8192 = row_room c.args.first.now c.args.total c.args.m (omega arith) c.requires.small c.if-total.false (sym c.in-Ok.ensures.refused) in
    record { long = omega arith }

pub returns-in-Ok : goal.returns-in-Ok
returns-in-Ok c =
    let text = string_bytes c.args.text.now in
    let r = c.in-Ok.ensures in
    record {
      lines = λ ok. c.tell_row.ensures.lines ok
          ∙ ap (λ (ls : List ℕ). text ++ ls)
          (made_report c.args.first.now c.args.total c.args.m (omega arith) c.requires.small c.if-total.false _ _ (sym r.refused) r.says);
    }

pub returns-in-Err : goal.returns-in-Err
returns-in-Err c =
    let text = string_bytes c.args.text.now in
    record {
      lines = λ ok. c.tell_refusal-in-Err.ensures.lines ok
          ∙ ap (λ (ls : List ℕ). text ++ ls)
          (no_report c.args.first.now c.args.total c.args.m (omega arith) c.requires.small c.if-total.false _ (sym c.in-Err.ensures.refused));
    }
