-- A row that was emptied is sound and holds no page.
use Rattle.std.proofs.Common.{◌≡◌, ℕ, ◌+◌, ◌*◌, ◌<◌, ◌≤◌, List, [], length, get_or, drop, refl, arith}
use Rattle.std.proofs.lemmas.Bool.{false≢true}
use Rattle.paging.specs.Lists.{has, distinct}
use Rattle.recency.specs.Row.{count, next, prev, door, homed, pages, walk}
use Rattle.recency.specs.Sound.{Chain, Led, Emptied}

module _ (k : ℕ) (row row' : List ℕ) (low : 1 ≤ k) (high : k ≤ 4096) (long : 9 * k + 5 ≤ length row') where
  pub emptied :
      count row' ≡ 0 → next row' 0 ≡ 0 → prev row' 0 ≡ 0 → ((h : ℕ) → h < 4 * k → get_or row' (door k h) 0 ≡ 0) →
      drop (9 * k + 5) row' ≡ drop (9 * k + 5) row → Emptied k row row'
  unfolding pages walk Chain Led homed has distinct
  emptied none forth back empty beyond =
      record {
        sound = record {
          sized = record { low = low; high = high; long = long; few = omega arith };
          order = [];
          linked = record { chain = (forth, back); once = refl; within = λ s there. absurd (false≢true there) };
          many = rw none;
          all = λ s above below. absurd (omega arith);
          once = refl;
          finds = λ h below. empty h below;
        };
        none = rw none;
        beyond = beyond;
      }
