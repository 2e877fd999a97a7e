use Rattle.std.proofs.Common.{rules, ◌≡◌, ℕ, ◌+◌, ◌≤◌, List, ◌∷◌, length, get_or, take, drop, sym, ap, ◌∙◌, arith}
use Rattle.std.proofs.lemmas.List.{take_all, take_more, length-take}
use Rattle.lru_cache.proofs.Hits.{hit_there, no_hit_absent}
use Rattle.recency.specs.Row as recent
use Rattle.recency.specs.declared.uses.Outcome.TheVariants.{Hit}
use Rattle.adversary.specs.Rules.{first_odd}
use Rattle.adversary.proofs.Broken.{told_at}
use Rattle.adversary.proofs.Marked.{marks_push}
use Rattle.adversary.proofs.Odd.{odd_strange, odd_twice, odd_more, odd_all}
use Rattle.adversary.proofs.challenge.Challenge.refuse_odd.Goals as goal
use Rattle.adversary.proofs.challenge.Challenge.refuse_odd.Goals.{then-not-allows-via-then-not-allows, then-not-allows-via-else-not-allows+then-eq}

pub returns-then-not-allows : goal.returns-then-not-allows
returns-then-not-allows c =
    let seen = recent.pages c.loop-i.seen in
    let allowed = c.args.self.last ∷ recent.pages c.args.before.now in
    let shown = c.args.shown.now in
    let i = c.loop-i.i in
    elim c.then-not-allows.branch [
      | then-not-allows-via-then-not-allows w ↦
          let strange = sym c.allows.ensures.value ∙ w.if-not-allows.true in
          record { cases = told_at _ i (sym c.loop-i.invariant.1 ∙ odd_strange seen allowed shown i (omega arith) strange) }
      | then-not-allows-via-else-not-allows+then-eq w ↦
          let hit : w.request.result ≡ Hit = search rules in
          let there = hit_there c.args.self.k seen (get_or shown i 0) (sym hit ∙ w.request.ensures.value) in
          record { cases = told_at _ i (sym c.loop-i.invariant.1 ∙ odd_twice seen allowed shown i (omega arith) there) }
    ]

pub loop-i-preserved : goal.loop-i-preserved
loop-i-preserved c =
    let k = c.args.self.k in
    let i = c.loop-i.i in
    let shown = c.args.shown.now in
    let page = get_or shown i 0 in
    let seen = recent.pages c.loop-i.seen in
    let allowed = c.args.self.last ∷ recent.pages c.args.before.now in
    let inv = c.loop-i.invariant in
    let r = c.request.ensures in
    let few = c.requires.few in
    let room : length (take i shown) ≤ i = rw length-take (omega arith) in
    let fits = inv.0.few in
    let not_hit : c.request.result ≡ Hit → ⊥ = λ h. search rules in
    let absent = no_hit_absent k seen page c.request.result r.value not_hit in
    let may = sym c.allows.ensures.value ∙ c.if-not-allows.false in
    let next = odd_more seen allowed shown i k (omega arith) may absent (omega arith) in
    let after = ap (λ (xs : List ℕ). first_odd (i + 1) xs allowed (drop (i + 1) shown)) r.after in (
      rw (take_more shown i 0 (omega arith)) (marks_push k c.loop-i.seen (take i shown) page c.request.new.row inv.0 (omega arith) r.after r.sound),
      after ∙ sym next ∙ inv.1,
      c.request.auto.row ∙ inv.2,
    )

pub returns : goal.returns
returns c =
    let allowed = c.args.self.last ∷ recent.pages c.args.before.now in
    let inv = c.loop-i.invariant in
    let odd = odd_all (recent.pages c.loop-i.seen) allowed c.args.shown.now c.loop-i.i (omega arith) in
    record { cases = (sym inv.1 ∙ odd, rw (take_all c.loop-i.i c.args.shown.now (omega arith)) at inv.0) }
