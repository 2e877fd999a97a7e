use Rattle.std.proofs.Common.{◌∙◌, arith}
use Rattle.adversary.proofs.Written.{writing_past, writing_more, writing_all}
use Rattle.adversary.proofs.schedule.write_held.Goals.{then-other-page, else-other-page}
use Rattle.adversary.proofs.schedule.write_held.Goals as goal

pub loop-other-preserved : goal.loop-other-preserved
loop-other-preserved c =
    let l = c.loop-other in
    let inv = l.invariant in
    let list = c.args.list.now in
    let page = c.args.page in
    let first = c.write_at.new.row in
    elim c.if-other-page.branch [
      | then-other-page w ↦
          let t = w.if-other-page.true in
          let more = writing_more list page first l.other-index l.n l.out inv.2 (omega arith) (omega arith) in
          rw (w.n-is, w.out-is) (omega arith, w.write_at-then-other-page.auto.row ∙ inv.1, rw w.write_at-then-other-page.ensures.after more)
      | else-other-page w ↦
          let t = w.if-other-page.false in
          rw (w.n-is, w.out-is) (omega arith, inv.1, writing_past list page first l.other-index l.n l.out inv.2 (omega arith) (omega arith))
    ]

pub returns : goal.returns
returns c =
    let l = c.loop-other in
    let inv = l.invariant in
    let all = writing_all c.args.list.now c.args.page c.write_at.new.row l.other-index l.n l.out inv.2 (omega arith) c.args.out.now c.write_at.ensures.after in
    record { value = all.0; after = all.1 }
