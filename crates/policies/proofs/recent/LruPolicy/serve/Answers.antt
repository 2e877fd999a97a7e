use Rattle.std.proofs.Common.{ℕ, List, length, ap, ◌∙◌, arith}
use Rattle.std.proofs.lemmas.List.{with_items_is}
use Rattle.paging.specs.Lru.{lru}
use Rattle.recency.specs.Row as recent
use Rattle.policies.proofs.Opened.{opened, again}
use Rattle.policies.proofs.Rules.{goes_on}
use Rattle.policies.proofs.recent.LruPolicy.serve.Goals as goal

pub turn-requires : goal.turn-requires
turn-requires c =
    let s = c.args.self.now in
    let o = opened s.capacity.places s.cache.items s.index.items s.formed s.closed in
    rw (c.deref_mut.ensures.value, c.deref_mut-2.ensures.value) (record { sound = o.sound; long = omega (arith, o.size) })

pub invariant_of-self : goal.invariant_of-self
invariant_of-self c =
    let s = c.args.self.now in
    let o = opened s.capacity.places s.cache.items s.index.items s.formed s.closed in
    let p = with_items_is s.cache c.turn.new.cache (c.turn.auto.cache ∙ c.deref_mut.ensures.len) in
    let q = with_items_is s.index c.turn.new.index (c.turn.auto.index ∙ c.deref_mut-2.ensures.len) in
    let size = ap length c.deref_mut.ensures.value ∙ o.size in
    let t = c.turn.ensures in
    let a = again s.capacity.places _ c.turn.new.cache c.turn.new.index size t.sound t.after _ _ p q in
    record { formed = a.0; closed = a.1 }

pub returns : goal.returns
returns c =
    let s = c.args.self.now in
    let q = with_items_is s.index c.turn.new.index (c.turn.auto.index ∙ c.deref_mut-2.ensures.len) in
    let step = ap recent.pages q ∙ c.turn.ensures.holds ∙ ap (λ (xs : List ℕ). lru s.capacity.places (recent.pages xs) c.args.page) c.deref_mut-2.ensures.value in
    record { after = goes_on (lru s.capacity.places) _ _ c.args.page step }
