use Rattle.std.proofs.Common.{◌≡◌, get_or, set, ap, ◌∙◌, arith}
use Rattle.recency.specs.Outcome.{outcome}
use Rattle.recency.specs.Row as recent
use Rattle.recency.specs.declared.uses.Outcome.{Outcome}
use Rattle.lru_cache.specs.Outcomes.{fetches_of}
use Rattle.lru_cache.proofs.Runs.{ran_more, ran_all, length_outcomes}
use Rattle.lru_cache.proofs.plays.run.Goals as goal

pub loop-i-preserved : goal.loop-i-preserved
loop-i-preserved c =
    let k = c.args.k in
    let i = c.loop-i.i in
    let cache = recent.pages c.loop-i.index in
    let page = get_or c.args.trace.now i 0 in
    let inv = c.loop-i.invariant in
    let o = c.request-outcome.ensures.value in
    let cost : c.cost-fetches.result ≡ fetches_of (outcome k cache page) = c.cost-fetches.ensures.value ∙ ap fetches_of o in
    let noted : c.write_at.new.row ≡ set c.loop-i.found i (outcome k cache page) = c.write_at.ensures.after ∙ ap (λ (x : Outcome). set c.loop-i.found i x) o in
    let ran = ran_more k c.args.trace.now (recent.pages c.args.index.now) c.args.found.now i c.loop-i.fetches cache c.loop-i.found inv.1 (omega arith) in (
      c.request-outcome.ensures.sound,
      rw (cost, noted, c.request-outcome.ensures.after) ran,
      c.request-outcome.ensures.beyond ∙ inv.2,
      omega (arith, ran.few, cost),
      c.request-outcome.auto.row ∙ inv.4,
      c.write_at.auto.row ∙ inv.5,
    )

pub returns : goal.returns
returns c =
    let k = c.args.k in
    let start = recent.pages c.args.index.now in
    let inv = c.loop-i.invariant in
    let done = ran_all k c.args.trace.now start c.args.found.now c.loop-i.i c.loop-i.fetches (recent.pages c.loop-i.index) c.loop-i.found inv.1 (omega arith) in
    record {
      value = done.0;
      after = record { sound = inv.0; holds = done.1; beyond = inv.2 };
      told = rw (length_outcomes k start c.args.trace.now) at done.2;
    }
