use Rattle.std.proofs.Common.{arith, rules, sym, ◌≡◌, ◌≢◌, ◌+◌, ◌<◌, length, ap, ◌∙◌, get_or-set_other, get_or-set_same, below_more}
use Rattle.std.proofs.lemmas.Grind.{common_steps}
use Rattle.traces.specs.Random.{after, after_steps}
use Rattle.traces.specs.declared.random.Random.{Random}
use Rattle.traces.proofs.Steps.{after_steps-more}
use Rattle.traces.proofs.random.draw.Goals as goal

pub loop-page-init : goal.loop-page-init
unfolding after_steps
loop-page-init c = search rules

pub loop-page-preserved : goal.loop-page-preserved
loop-page-preserved c =
    let lt : c.loop-page.page-index < length c.loop-page.trace = omega arith in
    let steps : c.draw.new.self ≡ after_steps (c.loop-page.page-index + 1) (record { state = c.args.seed; increment = 1 }) =
    c.draw.ensures.next ∙ (ap after c.loop-page.invariant.steps ∙ sym (after_steps-more _ _)) in
    record {
      below = grind (arith, common_steps);
      steps = steps;
      drawn = below_more _ _
          (λ k h. let ne : k ≢ c.loop-page.page-index = omega arith in rw get_or-set_other (c.loop-page.invariant.drawn k h))
          (rw get_or-set_same (rw (c.draw.ensures.upper, c.max.ensures, ap (λ (r : Random). r.state) steps)));
    }
