use Rattle.std.proofs.Common.{ap, ◌∙◌, arith}
use Rattle.lru_cache.specs.Rows.{cached}
use Rattle.policies.specs.Onward.{onward}
use Rattle.policies.proofs.Opened.{opened}
use Rattle.policies.proofs.recent.LruPolicy.shown.Goals as goal

pub pages_of-requires : goal.pages_of-requires
pages_of-requires c =
    let s = c.args.self.now in
    let o = opened s.capacity.places s.cache.items s.index.items s.formed s.closed in
    rw c.deref.ensures.value (record { long = omega (arith, o.size); few = o.few })

pub returns : goal.returns
unfolding onward
returns c =
    let s = c.args.self.now in
    let o = opened s.capacity.places s.cache.items s.index.items s.formed s.closed in
    record { value = c.pages_of.ensures.value ∙ ap cached c.deref.ensures.value ∙ o.shows }
