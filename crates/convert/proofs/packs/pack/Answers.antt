-- A turn writes the bytes of one page more.
use Rattle.std.proofs.Common.{◌≡◌, ◌<◌, length, arith}
use Rattle.std.proofs.lemmas.List.{length-take, get_or-take}
use Rattle.convert.proofs.Packed.{packed_more}
use Rattle.convert.proofs.packs.pack.Goals as goal

pub loop-i-preserved : goal.loop-i-preserved
loop-i-preserved c =
    let long = length-take c.min.result c.args.pages.now in
    let same : length c.put_page.new.out ≡ length c.args.out.now = omega arith in
    let within : c.loop-i.i < length c.args.pages.now = omega arith in
    let page = get_or-take c.min.result c.args.pages.now c.loop-i.i 0 (omega arith) in
    (same, packed_more _ _ _ _ _ _ within page c.loop-i.invariant.1 c.put_page.ensures.after)
