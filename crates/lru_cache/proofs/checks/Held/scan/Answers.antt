use Rattle.std.proofs.Common.{◌≡◌, ◌∷◌, length, get_or, sym, ap, ◌∙◌, arith}
use Rattle.paging.proofs.Requests.{lru_free}
use Rattle.recency.specs.Row as recent
use Rattle.recency.proofs.Pages.{length_pages}
use Rattle.lru_cache.proofs.Scans.{scan_more}
use Rattle.lru_cache.proofs.checks.Held.scan.Goals as goal

pub fill-requires-clause-room : goal.fill-requires-clause-room
fill-requires-clause-room c = omega (arith, c.loop-i.invariant.1, length_pages _ _ c.loop-i.invariant.0)

pub loop-i-preserved : goal.loop-i-preserved
loop-i-preserved c =
    let i = c.loop-i.i in
    let pages = c.args.self.now.pages.now in
    let page = get_or pages i 0 in
    let seen = recent.pages c.loop-i.seen in
    let many = c.loop-i.invariant.1 in
    let absent = sym c.contains.ensures.value ∙ c.if-contains.false in
    let now-seen : recent.pages c.fill.new.row ≡ page ∷ seen = c.fill.ensures.after ∙ lru_free c.args.self.now.capacity.places page seen absent (omega arith) in
    let next = scan_more seen pages i (omega arith) c.if-page-ge-PAGE_LIMIT.false absent in
    (c.fill.ensures.sound, omega (arith, ap length now-seen), rw now-seen (sym next ∙ c.loop-i.invariant.2))
