use Rattle.std.proofs.Common.{arith, rules, ◌≡◌, ◌≢◌, ℕ, ◌+◌, ◌<◌, length, ap, ◌∙◌, add-one, get_or-set_other, get_or-set_same, below_more, sym}
use Rattle.traces.specs.Kind.{next_page, number, page_of}
use Rattle.traces.specs.Random.{after, after_steps}
use Rattle.traces.specs.declared.kind.Kind.{Kind}
use Rattle.traces.specs.declared.random.Random.{Random}
use Rattle.traces.proofs.Steps.{after_steps-more}
use Rattle.traces.proofs.kind.Kind.fill.Goals as goal

page_of-more : (kind : Kind) (pages n : ℕ) → page_of kind pages (n + 1) ≡ next_page kind pages (page_of kind pages n) (number pages n)
unfolding page_of
page_of-more kind pages n = ap (page_of kind pages) (add-one n)

pub loop-page-init : goal.loop-page-init
unfolding after_steps page_of
loop-page-init c = search rules

pub loop-page-preserved : goal.loop-page-preserved
loop-page-preserved c =
    let lt : c.loop-page.page-index < length c.loop-page.trace = omega arith in
    let steps : c.draw.new.self ≡ after_steps (c.loop-page.page-index + 1) (record { state = c.args.pages; increment = 1442695040888963407 }) =
    c.draw.ensures.next ∙ (ap after c.loop-page.invariant.steps ∙ sym (after_steps-more _ _)) in
    let last : c.next-last.result ≡ page_of c.args.self c.args.pages (c.loop-page.page-index + 1) =
    rw (page_of-more, c.next-last.ensures.next, c.loop-page.invariant.last, c.draw.ensures.upper, ap (λ (r : Random). r.state) steps) in
    record {
      below = c.next-last.ensures.below;
      last = last;
      steps = steps;
      made = below_more _ _
          (λ k h. let ne : k ≢ c.loop-page.page-index = omega arith in rw get_or-set_other (c.loop-page.invariant.made k h))
          (rw get_or-set_same last);
    }
