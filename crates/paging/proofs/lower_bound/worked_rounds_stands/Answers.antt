use Rattle.std.proofs.Common.{refl}
use Rattle.paging.specs.Adversary.{
  fresh,
  first_missing,
  once_each,
  below,
  opened,
  new_pages,
  pages_of,
  picks,
  second_part,
  requests,
  last_new,
  next_list,
  next_round,
  rounds,
  trace_from,
  held,
  served,
  schedule_from,
  adversary,
  beside,
}
use Rattle.paging.specs.Failing.{pages_in, count_of, others, fewest, counted, spared, entries, least_requested_goes}
use Rattle.paging.specs.Lists.{has, without, distinct}
use Rattle.paging.specs.Lru.{lru}
use Rattle.paging.specs.Policies.{history_after, policy_fetches}
use Rattle.paging.specs.Rules.{lru_policy}
use Rattle.paging.specs.Schedules.{only_adds, feasible, schedule_fetches}
use Rattle.paging.proofs.lower_bound.worked_rounds_stands.Goals as goal

pub returns : goal.returns
unfolding fresh first_missing once_each below opened new_pages pages_of picks second_part requests last_new next_list next_round rounds trace_from held served schedule_from adversary beside pages_in count_of others fewest counted spared entries least_requested_goes has without distinct lru history_after policy_fetches lru_policy only_adds feasible schedule_fetches
returns c = record { three = refl; three_list = refl; three_fetches = refl; three_allowed = refl; three_beside = refl; five = refl }
