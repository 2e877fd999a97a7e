-- What is told of a request and of a whole challenge. Assumes nothing: these are definitions.
--     gone before after              the first page of before that does not stand in after, or None
--     said page before after         the line of a request for page, where a cache shows before and then after
--     totals_of k h m                what m rounds come to
--     Totalled k h m totals          these are the counts against every policy that obeys the rules
use Rattle.std.specs.Prelude.{◌≡◌, ℕ, suc, ◌+◌, ◌-◌, ◌*◌, cond, List, [], ◌∷◌, length, Some, None, Option}
use Rattle.paging.specs.Adversary.{adversary, beside}
use Rattle.paging.specs.Lists.{has}
use Rattle.paging.specs.Policies.{Policy, history_after, policy_fetches}
use Rattle.paging.specs.Schedules.{schedule_fetches}
use Rattle.trace.specs.declared.lines.Line.{Line}
use Rattle.trace.specs.declared.lines.Line.TheVariants.{Here, Fetched, FetchedFor}
use Rattle.trace.specs.declared.totals.Totals.{Totals}

unfoldable pub gone : List ℕ → List ℕ → Option ℕ
gone [] after = None
gone (page ∷ before) after = cond (has after page) (gone before after) (Some page)

abbrev pub fetched : ℕ → Option ℕ → Line
fetched page None = Fetched page
fetched page (Some other) = FetchedFor page other

abbrev pub said : ℕ → List ℕ → List ℕ → Line
said page before after = cond (has before page) (Here page) (fetched page (gone before after))

abbrev pub totals_of : ℕ → ℕ → ℕ → Totals
totals_of k h m = record { asked = h + m * k; keeper = h + m * k; rival = h + m * (suc k - h) }

pub record Totalled (k h m : ℕ) (totals : Totals) (policy : Policy) : Type 0 where
  pub asked : totals.asked ≡ length (adversary k h policy m)
  pub keeper : totals.keeper ≡ policy_fetches policy (history_after [] (adversary k h policy m))
  pub rival : totals.rival ≡ schedule_fetches [] (adversary k h policy m) (beside k h policy m)
