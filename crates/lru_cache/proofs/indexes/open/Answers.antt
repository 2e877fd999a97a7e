use Rattle.std.proofs.Common.{◌≡◌, ◌∷◌, ◌++◌, ◌∙◌, append_assoc, arith}
use Rattle.std.specs.Slice.Iter.{iter_rest}
use Rattle.std.specs.Iterator.Adapters.{rev_source}
use Rattle.recency.specs.Row as recent
use Rattle.recency.proofs.Pages.{length_pages}
use Rattle.lru_cache.specs.Rows.{cached}
use Rattle.lru_cache.proofs.Written.{length_cached, read_more}
use Rattle.lru_cache.proofs.indexes.open.Goals as goal

pub fill-requires : goal.fill-requires
fill-requires c =
    let left = iter_rest (rev_source c.next.new.self) in
    let page = c.in-Some.field-0.now in
    let inv = c.loop-page.invariant in
    let is : left ++ page ∷ recent.pages c.loop-page.index ≡ cached c.args.cache.now = rw (c.in-Some.ensures.steps, append_assoc) at inv.1 in
    let many = length_cached c.args.cache.now c.args.k (omega arith) c.requires.checked.long in
    let read = read_more c.args.k left page _ (cached c.args.cache.now) is c.requires.checked.once (omega arith) in
    record { sound = inv.0; room = omega (arith, read.room, length_pages _ _ inv.0); absent = read.absent }

pub loop-page-preserved : goal.loop-page-preserved
loop-page-preserved c =
    let left = iter_rest (rev_source c.next.new.self) in
    let page = c.in-Some.field-0.now in
    let inv = c.loop-page.invariant in
    let is : left ++ page ∷ recent.pages c.loop-page.index ≡ cached c.args.cache.now = rw (c.in-Some.ensures.steps, append_assoc) at inv.1 in
    let many = length_cached c.args.cache.now c.args.k (omega arith) c.requires.checked.long in
    let read = read_more c.args.k left page _ (cached c.args.cache.now) is c.requires.checked.once (omega arith) in
    let r = c.fill.ensures in
    (r.sound, rw (r.after, read.more) is, r.beyond ∙ inv.2)
