use Rattle.std.proofs.Common.{List, get_or, ap}
use Rattle.paging.specs.Lru.{lru_after}
use Rattle.recency.specs.declared.uses.Outcome.{Outcome}
use Rattle.recency.specs.declared.uses.Outcome.TheVariants.{Hit}
use Rattle.lru_cache.specs.Outcomes.{outcomes}
use Rattle.lru_cache.proofs.plays.serve.Goals as goal

pub returns-clause-served : goal.returns-clause-served
unfolding outcomes lru_after
returns-clause-served c =
    let p = c.in_ok-play.ensures.played in
    record { value = ap (λ (os : List Outcome). get_or os 0 Hit) p.told; left = p.left }
