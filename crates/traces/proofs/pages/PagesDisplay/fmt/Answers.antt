use Rattle.std.proofs.Common.{arith, rules, ◌≡◌, ℕ, List, [], ◌+◌, ◌<◌, ◌++◌, length, take, get_or, codes, decimal, ap, sym, ◌∙◌}
use Rattle.std.proofs.Output.{has_written_append, has_written_of_eq}
use Rattle.std.proofs.lemmas.List.{flat_map_more, take_more}
use Rattle.traces.specs.Pages.{pages_text}
use Rattle.traces.proofs.pages.PagesDisplay.fmt.Goals as goal

-- one page more
more : (pages : List ℕ) (i : ℕ) → i < length pages → pages_text (take i pages) ++ (codes " " ++ decimal (get_or pages i 0)) ≡ pages_text (take (i + 1) pages)
more pages i lt = flat_map_more (λ page. codes " " ++ decimal page) [] (take i pages) (get_or pages i 0) ∙ ap pages_text (sym (take_more pages i 0 lt))

pub loop-page-preserved : goal.loop-page-preserved
loop-page-preserved g c = λ plain.
    let lt : c.loop-page.page-index < length c.args.self.now.0.now = omega arith in
    has_written_of_eq _ _ _ _ _ (more _ _ lt) (has_written_append _ _ _ _ _ _ (c.loop-page.invariant plain) (search rules))
