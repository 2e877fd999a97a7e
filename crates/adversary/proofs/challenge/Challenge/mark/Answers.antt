use Rattle.std.proofs.Common.{◌≤◌, length, get_or, take, ◌∙◌, arith}
use Rattle.std.proofs.lemmas.List.{take_more, length-take}
use Rattle.adversary.proofs.Marked.{marks_push}
use Rattle.adversary.proofs.challenge.Challenge.mark.Goals as goal

pub loop-page-preserved : goal.loop-page-preserved
loop-page-preserved c =
    let pages = c.args.pages.now in
    let i = c.loop-page.page-index in
    let r = c.request.ensures in
    let inv = c.loop-page.invariant in
    let few = c.requires.few in
    let room : length (take i pages) ≤ i = rw length-take (omega arith) in
    let more = take_more pages i 0 (omega arith) in
    (rw more (marks_push c.args.self.k c.loop-page.index (take i pages) (get_or pages i 0) c.request.new.row inv.0 (omega arith) r.after r.sound), c.request.auto.row ∙ inv.1)
