use Rattle.std.proofs.Common.{◌≡◌, map, rules}
use Rattle.std.proofs.lemmas.List.Sorted.{answers_always}
use Rattle.std.specs.Ordering.{is_lt, nat_cmp}
use Rattle.belady.proofs.Firsts.{first_of, less_is}
use Rattle.belady.proofs.places.latest.Goals as goal

pub returns : goal.returns
returns c =
    let run = c.position_min_by.ensures.runs in
    let is = run.3 (λ a b. is_lt (nat_cmp b.now a.now)) (answers_always _ _ _ (λ f a r g called. search rules)) in
    let items = (c.iter.ensures.runs run.0 run.0.seen).4 run.2 in
    let keys : map (λ y. y.now) run.0.items ≡ c.args.keys.now = rw (run.1, c.iter.ensures.rest) at items in
    record { value = rw (c.unwrap_or.ensures, is) (first_of (λ a b. is_lt (nat_cmp b.now a.now)) (λ y. y.now) (λ a b. less_is b.now a.now) c.args.keys.now run.0.items keys c.requires.some) }
