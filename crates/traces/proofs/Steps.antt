-- A generator that goes on by one step.
use Rattle.std.proofs.Common.{◌≡◌, ℕ, ◌+◌, add-one}
use Rattle.traces.specs.Random.{after, after_steps}
use Rattle.traces.specs.declared.random.Random.{Random}

pub after_steps-more : (n : ℕ) (r : Random) → after_steps (n + 1) r ≡ after (after_steps n r)
unfolding after_steps
after_steps-more n r = rw add-one
