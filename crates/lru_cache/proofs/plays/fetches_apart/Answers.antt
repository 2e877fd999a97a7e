use Rattle.std.proofs.Common.{ap, ◌∙◌, arith}
use Rattle.paging.specs.Lru.{lru_fetches}
use Rattle.lru_cache.proofs.Cleared.{cleared}
use Rattle.lru_cache.proofs.plays.fetches_apart.Goals as goal

pub returns : goal.returns
returns g c =
    let k = c.args.capacity.places in
    let empty = cleared k _ c.clear.result c.clear.new.row (omega arith) (omega arith) (omega arith) c.clear.ensures.value c.clear.ensures.after in
    record { value = c.run.ensures.value ∙ ap (λ pages. lru_fetches k pages c.args.trace.now) empty.none }
