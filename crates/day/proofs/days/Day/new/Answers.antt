use Rattle.std.proofs.Common.{refl}
use Rattle.lru_cache.specs.Rows.{first_wide}
use Rattle.day.proofs.days.Day.new.Goals as goal

pub invariant_of-day-clause-small : goal.invariant_of-day-clause-small
unfolding first_wide
invariant_of-day-clause-small c = refl
