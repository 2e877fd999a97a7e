use Rattle.std.proofs.Common.{refl, arith}
use Rattle.paging.specs.Belady.{furthest, belady, belady_fetches}
use Rattle.paging.specs.Lists.{has, without, distinct, place}
use Rattle.paging.specs.Lru.{lru, lru_fetches, lru_after}
use Rattle.paging.specs.Schedules.{only_adds, feasible, schedule_fetches}
use Rattle.paging.specs.Worked.{rounds}
use Rattle.paging.proofs.Belady.{belady_least}
use Rattle.paging.proofs.Competitive.{competitive}
use Rattle.paging.proofs.worked_stands.Goals as goal

pub returns : goal.returns
unfolding has without distinct place furthest belady belady_fetches lru lru_fetches lru_after only_adds feasible schedule_fetches
returns c =
    record {
      ten_2 = refl;
      ten_3 = refl;
      ten_4 = refl;
      ten_left = refl;
      ten_2_fewest = refl;
      ten_3_fewest = refl;
      ten_4_fewest = refl;
      rounds_3 = refl;
      rounds_4 = refl;
      rounds_2_fewest = refl;
      rounds_3_fewest = refl;
      rounds_4_fewest = refl;
      bound = λ schedule ok. competitive 3 2 rounds schedule (omega arith) (omega arith) ok;
      least = λ schedule ok. belady_least 2 rounds schedule (omega arith) ok;
      two_feasible = refl;
      two_fetches = refl;
    }
