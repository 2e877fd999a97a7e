use Rattle.std.proofs.Common.{◌≡◌, map, rules, refl, true}
use Rattle.std.proofs.lemmas.List.Sorted.{answers_always}
use Rattle.std.specs.Ordering.{is_lt, nat_cmp}
use Rattle.itertools.specs.Extremes.{wins, flipped}
use Rattle.least_requested.proofs.Leasts.{last_of, last_within, less_is}
use Rattle.least_requested.proofs.last_place.Goals as goal

pub returns : goal.returns
returns c =
    let run = c.position_max_by.ensures.runs in
    let is = run.3 (λ a b. is_lt (nat_cmp b.now a.now)) (answers_always _ _ _ (λ f a r g called. search rules)) in
    let items = (c.iter.ensures.runs run.0 run.0.seen).4 run.2 in
    let keys : map (λ y. y.now) run.0.items ≡ c.args.row.now = rw (run.1, c.iter.ensures.rest) at items in
    let value = last_of (wins true (flipped (λ a b. is_lt (nat_cmp b.now a.now)))) (λ y. y.now) (λ x best. less_is best.now x.now) c.args.row.now run.0.items keys c.requires.some in
    rw (c.unwrap_or.ensures, is, value) (record { value = refl; bound = last_within c.args.row.now c.requires.some })
