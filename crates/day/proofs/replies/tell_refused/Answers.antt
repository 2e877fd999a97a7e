-- Each turn says one line more, and leaves one request less.
use Rattle.std.proofs.Common.{◌≡◌, suc, ◌+◌, ◌-◌, length, get_or, inl, Err, arith}
use Rattle.std.proofs.lemmas.List.{drop_more, length-drop}
use Rattle.day.proofs.Lines.{lines_more, lines_done}
use Rattle.day.proofs.replies.tell_refused.Goals as goal

pub loop-preserved : goal.loop-preserved
loop-preserved c =
    let trace = c.args.trace.now in
    let i = c.loop.index in
    let left : length trace - i ≡ suc (length trace - (i + 1)) = omega arith in
    let more = drop_more trace i 0 (omega arith) in
    let was = rw (left, more) at c.loop.invariant in
    lines_more _ _ _ _ (get_or trace i 0) (Err c.args.refusal) _ c.in_ok-writeln.ensures.bytes was

pub returns : goal.returns
returns c = record { lines = λ ok. lines_done _ _ _ _ (inl (omega (arith, length-drop c.loop.index c.args.trace.now))) c.loop.invariant }
