use Rattle.std.proofs.Common.{◌≡◌, ℕ, ◌≤◌, length, replicate, ap, ◌∙◌, arith}
use Rattle.recency.proofs.Pages.{length_pages}
use Rattle.recency.specs.Row as recent
use Rattle.lru_cache.proofs.Written.{places_are}
use Rattle.lru_cache.proofs.indexes.put.Goals as goal

pub returns-clause-after : goal.returns-clause-after
returns-clause-after c =
    let k = c.args.k in
    let zeros : c.fill.new.self ≡ replicate k 0 = c.fill.ensures.after (λ y e. e) ∙ ap (λ (n : ℕ). replicate n 0) c.requires.places in
    let many = length_pages k c.args.index.now c.requires.sound in
    let few : length (recent.pages c.args.index.now) ≤ k = omega (arith, c.requires.sound.sized.few) in
    c.list.ensures.after ∙ places_are k (recent.pages c.args.index.now) c.fill.new.self zeros few
