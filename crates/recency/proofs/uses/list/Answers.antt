use Rattle.std.proofs.Common.{◌≡◌, ◌+◌, sym, refl, ap, ◌∙◌, arith}
use Rattle.std.proofs.lemmas.List.{length-take}
use Rattle.recency.specs.Row.{pages, next, held}
use Rattle.recency.specs.Sound.{Sound}
use Rattle.recency.proofs.Copies.{front_more, copied}
use Rattle.recency.proofs.Pages.{order_first, order_next, order_within, page_at, length_pages}
use Rattle.recency.proofs.uses.list.Goals as goal

pub loop-place-init : goal.loop-place-init
loop-place-init c =
    let k = c.args.k in
    let row = c.args.row.now in
    let sound = c.requires.sound in
    (omega (arith, order_first k row sound, order_within k row sound 0), order_first k row, refl)

pub loop-place-preserved : goal.loop-place-preserved
loop-place-preserved c =
    let k = c.args.k in
    let row = c.args.row.now in
    let i = c.loop-place.place-index in
    let inv = c.loop-place.invariant in
    let sound = c.requires.sound in
    let many = length_pages k row sound in
    let room = length-take c.min-n.result c.args.out.now in
    let page = ap (held row) (inv.1 sound) ∙ page_at k row sound i (omega arith) in
    let go_on = λ (s : Sound k row). ap (next row) (inv.1 s) ∙ order_next k row s i (omega arith) in (
      omega (arith, go_on sound, order_within k row sound (i + 1)),
      go_on,
      front_more (pages row) c.loop-place.place-items i (held row c.loop-place.slot) inv.2 (omega arith) (omega arith) page,
    )

pub returns : goal.returns
returns c =
    let inv = c.loop-place.invariant in
    let many = length_pages c.args.k c.args.row.now c.requires.sound in
    let room = length-take c.min-n.result c.args.out.now in
    let all : c.loop-place.place-index ≡ c.min-n.result = omega arith in
    record {
      value = sym many;
      after = copied (pages c.args.row.now) c.args.out.now c.loop-place.place-items c.min-n.result (omega arith) (omega arith) (rw all at inv.2);
    }
