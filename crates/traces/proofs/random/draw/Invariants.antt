use Rattle.std.proofs.Common.{◌≡◌, ℕ, ◌+◌, ◌%◌, ◌/◌, ◌^◌, ◌<◌, All, take, max, get_or}
use Rattle.traces.specs.Random.{after_steps}
use Rattle.traces.proofs.random.draw.Given as goal

abbrev pub invariant-loop-page : goal.invariant-loop-page
invariant-loop-page l = record {
  below : All (λ p. p < max l.bound 1) (take l.page-index l.trace);
  steps : l.random ≡ after_steps l.page-index (record { state = l.seed; increment = 1 });
  drawn : (k : ℕ) → k < l.page-index → get_or l.trace k 0 ≡ (after_steps (k + 1) (record { state = l.seed; increment = 1 })).state / 2 ^ 33 % max l.bound 1;
}
