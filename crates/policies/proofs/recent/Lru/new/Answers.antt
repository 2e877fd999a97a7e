use Rattle.std.proofs.Common.{◌≡◌, [], ap, ◌∙◌, arith}
use Rattle.std.proofs.lemmas.List.{with_items_is}
use Rattle.recency.specs.Row as recent
use Rattle.policies.proofs.Opened.{again}
use Rattle.policies.proofs.Rules.{lru_does}
use Rattle.policies.proofs.recent.Lru.new.Goals as goal

pub invariant_of-result : goal.invariant_of-result
invariant_of-result c =
    let t = c.start.ensures in
    let p = with_items_is c.in_ok-cache.cache c.start.new.cache (c.start.auto.cache ∙ c.deref_mut.ensures.len) in
    let q = with_items_is c.in_ok-index.index c.start.new.index (c.start.auto.index ∙ c.deref_mut-2.ensures.len) in
    let size = c.deref_mut.ensures.len ∙ c.in_ok-cache.ensures.len in
    let a = again c.in_ok-capacity.capacity.places _ c.start.new.cache c.start.new.index size t.sound t.after _ _ p q in
    record { formed = a.0; closed = a.1 }

pub returns-clause-cases : goal.returns-clause-cases
returns-clause-cases c =
    let q = with_items_is c.in_ok-index.index c.start.new.index (c.start.auto.index ∙ c.deref_mut-2.ensures.len) in
    let none : recent.pages _ ≡ [] = ap recent.pages q ∙ c.start.ensures.none in
    let is : c.in_ok-capacity.capacity.places ≡ c.args.k = rw c.in_ok-capacity.ensures.ok_part at c.new.ensures.cases in
    rw (none, is) (lru_does c.args.k (omega (arith, is)))
