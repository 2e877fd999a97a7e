-- Where a generator goes on.
use Rattle.std.specs.Prelude.{ℕ, zero, suc, ◌+◌, ◌*◌, ◌%◌, ◌^◌}
use Rattle.traces.specs.declared.random.Random.{Random}

-- the generator after one step
abbrev pub after : Random → Random
after r = record r { state = (r.state * 6364136223846793005 + r.increment) % 2 ^ 64 }

-- the generator after so many steps
unfoldable pub after_steps : ℕ → Random → Random
after_steps zero r = r
after_steps (suc n) r = after (after_steps n r)
