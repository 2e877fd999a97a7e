-- What is told of a policy that is challenged. Assumes nothing: these are definitions.
--     position_at c row              where a challenge and its row stand, with no request since
--     lines_from k h policy n x      the lines of n requests from x on, each with a line break
--     Turned ..                      n requests were made: where the challenge and the policy are then
--     Told ..                        and told: the lines
--     Refused stop P                 P holds of the refusal that is why there are no further requests; else there was no memory
--     Halted ..                      the adversary refused, after so many requests that were made and told, for this reason
--     fault_of stop                  the fault of a challenge that stopped
--     Ended s policy after totals    a challenge of the settings s made to its end: the policy was given exactly the adversary's opening and
--                                    rounds, and these are the counts
--     last_line ended                the line at the end of a challenge, with its line break: the counts, or why it was refused; of another fault nothing
use Rattle.std.specs.Prelude.{◌≡◌, ℕ, zero, suc, ◌<◌, List, [], ◌∷◌, ◌++◌, Some, Ok, Err, Result}
use Rattle.paging.specs.Adversary.{adversary}
use Rattle.paging.specs.Policies.{Policy, history_after}
use Rattle.paging.specs.Stepwise.{Play, next_request, step, plays}
use Rattle.adversary.specs.Places.{position_in}
use Rattle.adversary.specs.Runs.{Led}
use Rattle.adversary.specs.Steps.{refusal_in, if_long}
use Rattle.adversary.specs.declared.challenge.Challenge.{Challenge}
use Rattle.lru_cache.specs.Refusals.{refusal_bytes}
use Rattle.lru_cache.specs.declared.refusals.Refusal.{Refusal}
use Rattle.telling.specs.Told.{said, totals_of}
use Rattle.trace.specs.Lines.{line_bytes}
use Rattle.trace.specs.Totals.{totals_bytes}
use Rattle.trace.specs.declared.settings.Settings.{Settings}
use Rattle.trace.specs.declared.totals.Totals.{Totals}
use Rattle.contest.specs.declared.faults.Fault.{Fault}
use Rattle.contest.specs.declared.faults.Fault.TheVariants as fault
use Rattle.lru_cache.specs.declared.stops.Stop.{Stop}
use Rattle.lru_cache.specs.declared.stops.Stop.TheVariants as stop

abbrev pub position_at : Challenge → List ℕ → Play
position_at c row = record { position = position_in c row; history = [] }

unfoldable pub lines_from : ℕ → ℕ → Policy → ℕ → Play → List ℕ
lines_from k h policy zero x = []
lines_from k h policy (suc n) x =
    let page : ℕ = next_request k x.position (policy x.history) in
    line_bytes (said page (policy x.history) (policy (page ∷ x.history))) ++ (10 ∷ lines_from k h policy n (step k h policy x))

pub record Turned (policy : Policy) (n : ℕ) (c : Challenge) (row : List ℕ) (after : Policy) (c' : Challenge) (row' : List ℕ) : Type 0 where
  pub position : position_in c' row' ≡ (plays c.k c.h policy n (position_at c row)).position
  pub led : Led policy (plays c.k c.h policy n (position_at c row)).history after
  pub k_is : c'.k ≡ c.k
  pub h_is : c'.h ≡ c.h

pub record Told (policy : Policy) (n : ℕ) (c : Challenge) (row text : List ℕ) (after : Policy) (c' : Challenge) (row' text' : List ℕ) : Type 0 where
  pub lines : text' ≡ text ++ lines_from c.k c.h policy n (position_at c row)
  pub position : position_in c' row' ≡ (plays c.k c.h policy n (position_at c row)).position
  pub led : Led policy (plays c.k c.h policy n (position_at c row)).history after
  pub k_is : c'.k ≡ c.k
  pub h_is : c'.h ≡ c.h

abbrev pub Refused : Stop → (Refusal → Type 0) → Type 0
Refused (stop.Refused refusal) P = P refusal
Refused stop.Memory P = Unit {0}

pub record Halted (policy : Policy) (n : ℕ) (c : Challenge) (row text : List ℕ) (refusal : Refusal) (after : Policy) (row' text' : List ℕ) : Type 0 where
  pub made : ℕ
  pub few : made < n
  pub stands : Challenge
  pub told : Told policy made c row text after stands row' text'
  pub why : if_long stands row' (refusal_in stands row' (after [])) ≡ Some refusal

abbrev pub fault_of : Stop → Fault
fault_of (stop.Refused refusal) = fault.Refused refusal
fault_of stop.Memory = fault.Memory

pub record Ended (s : Settings) (policy after : Policy) (totals : Totals) : Type 0 where
  pub led : Led policy (history_after [] (adversary s.capacity s.places policy s.rounds)) after
  pub counted : totals ≡ totals_of s.capacity s.places s.rounds

abbrev pub last_line : Result Totals Fault → List ℕ
last_line (Ok totals) = totals_bytes totals ++ (10 ∷ [])
last_line (Err (fault.Refused refusal)) = refusal_bytes refusal ++ (10 ∷ [])
last_line (Err other) = []
