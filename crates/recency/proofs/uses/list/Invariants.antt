use Rattle.std.proofs.Common.{◌≡◌, ◌≤◌, get_or, take}
use Rattle.recency.specs.Row.{pages}
use Rattle.recency.specs.Sound.{Sound}
use Rattle.recency.proofs.uses.list.Given as goal

-- the slot is the next one of the ring, and the pages of those before it are written
abbrev pub invariant-loop-place : goal.invariant-loop-place
invariant-loop-place l =
    (l.slot ≤ l.k) × ((sound : Sound l.k l.row) → l.slot ≡ get_or sound.order l.place-index 0)
    × (take l.place-index l.place-items ≡ take l.place-index (pages l.row))
