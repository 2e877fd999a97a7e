-- Each turn says one line more.
use Rattle.std.proofs.Common.{◌≡◌, ℕ, ◌+◌, List, ◌++◌, take, drop, string_bytes, inl, inr, ap, arith, rules}
use Rattle.std.proofs.lemmas.Grind.{common_steps}
use Rattle.day.proofs.Reporting.{row_more, row_done, pair_row}
use Rattle.day.proofs.reports.tell_row.Goals as goal

pub loop-i-init : goal.loop-i-init
loop-i-init c =
    let iterator = c.into_iter-i-iterator.result in
    let house : iterator.iter.a.rest.now ≡ take c.args.m (drop 0 c.args.row.now) = search rules in
    let known : iterator.iter.b.rest.now ≡ take c.args.m (drop (c.args.m + 0) c.args.row.now) = grind (arith, common_steps) in
    let count : iterator.count ≡ 0 = search rules in
    rw count (ap (λ (ls : List ℕ). string_bytes c.args.text.now ++ ls) (pair_row c.args.row.now c.args.m 0 c.args.m _ _ house known (omega arith)))

pub loop-i-preserved : goal.loop-i-preserved
loop-i-preserved c =
    let s = c.in-Some.ensures.steps in
    let was = rw (s.0.0, s.0.1) at c.loop-i.invariant in
    rw s.2 (row_more _ _ _ _ c.loop-i.i-iterator.count _ _ _ (rw s.1 at c.in_ok-writeln.ensures.bytes) was)

pub returns : goal.returns
returns c =
    let s = c.in-None.ensures.steps in
    record { lines = λ ok. row_done _ _ _ _ _ (elim s.0 [ inl e ↦ inl e.1.0 | inr e ↦ inr e.1.0 ]) c.loop-i.invariant }
