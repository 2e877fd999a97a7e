use Rattle.std.proofs.Common.{◌≡◌, [], ap, ◌∙◌}
use Rattle.paging.specs.Lru.{lru_fetches}
use Rattle.paging.proofs.Competitive.{competitive_from}
use Rattle.lru_cache.proofs.plays.fetches.Goals as goal

pub returns-clause-counted : goal.returns-clause-counted
returns-clause-counted c =
    let k = c.args.k in
    let trace = c.args.trace.now in
    let is : c.in_ok-capacity.capacity.places ≡ k = rw c.in_ok-capacity.ensures.ok_part at c.new.ensures.cases in
    let count : c.fetches_within.result ≡ lru_fetches k [] trace = c.fetches_within.ensures.value ∙ ap (λ places. lru_fetches places [] trace) is in
    (count, λ h start schedule low le ok. rw count (competitive_from k h [] trace start schedule low le ok))
