use Rattle.std.proofs.Common.{◌≡◌, ◌+◌, ◌-◌, ◌<◌, ◌≤◌, ◌∙◌, arith}
use Rattle.picture.specs.Pictured.{steps_piece}
use Rattle.picture.proofs.Assembled.{line_told}
use Rattle.picture.proofs.Joined.{told_more, told_done, step_none, step_told}
use Rattle.picture.proofs.scales.Scale.tell_line.Goals.{then-y-before+in_ok-write-2, else-y-before}
use Rattle.picture.proofs.scales.Scale.tell_line.Goals as goal

pub loop-c-preserved : goal.loop-c-preserved
loop-c-preserved c =
    let s = c.args.self in
    let was = c.loop-c.invariant in
    let less : c.loop-c.c < s.places = omega arith in
    let same : c.loop-c.c + 1 - 1 ≡ c.loop-c.c = omega arith in
    let more = told_more (steps_piece c.args.fetches.now s.top s.places) _ _ _ _ was.so_far in
    let here = c.height-y.ensures.value in
    let before : c.if-y-before.before ≡ c.height-y.result = elim c.if-y-before.branch [
      | then-y-before+in_ok-write-2 w ↦ w.before-is
      | else-y-before w ↦ w.before-is
    ] in
    record {
      so_far = elim c.if-y-before.branch [
        | then-y-before+in_ok-write-2 w ↦ rw w.text-is (more _ less
            (step_told c.args.fetches.now s.top s.places c.loop-c.c _ _ _ was.before_is here _ _ w.if-y-before.true w.edge-x.ensures.value
            w.in_ok-write-2.ensures.bytes))
        | else-y-before w ↦ rw w.text-is (more _ less
            (step_none c.args.fetches.now s.top s.places c.loop-c.c _ _ _ was.before_is here w.if-y-before.false))
      ];
      before_is = rw same (before ∙ here);
    }

pub returns : goal.returns
returns c =
    let s = c.args.self in
    let all : s.places ≤ c.loop-c.c = omega arith in
    record {
      lines = λ ok. line_told _ _ _ _ c.args.start c.args.fetches.now s.top s.places s.some c.in_ok-write.ensures.bytes
          (told_done (steps_piece c.args.fetches.now s.top s.places) _ _ _ _ c.loop-c.invariant.so_far all) c.in_ok-write-3.ensures.bytes;
    }
