-- Each turn says one line more, and leaves one request less.
use Rattle.std.proofs.Common.{Ok, ◌∙◌, inl, inr}
use Rattle.std.proofs.lemmas.List.{length-map}
use Rattle.day.proofs.Lines.{lines_more, lines_done}
use Rattle.day.proofs.replies.tell.Goals as goal

pub loop-page-preserved : goal.loop-page-preserved
loop-page-preserved c =
    let s = c.in-Some.ensures.steps in
    let was = rw (s.0, s.1) at c.loop-page.invariant in
    lines_more _ _ _ _ c.in-Some.field-0-0.now (Ok c.in-Some.field-0-1.now) _ (rw c.line.ensures.value at c.in_ok-writeln.ensures.bytes) was

pub returns : goal.returns
returns c =
    let rest = c.loop-page.page-iterator.b.rest.now in
    record { lines = λ ok. lines_done _ _ _ _ (elim c.in-None.ensures.steps [ inl s ↦ inl s.1.0 | inr s ↦ inr (length-map rest (λ o. Ok o) ∙ s.1.0) ]) c.loop-page.invariant }
