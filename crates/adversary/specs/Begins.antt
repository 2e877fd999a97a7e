-- Where a challenge begins. Assumes nothing: these are definitions.
--     unfit k h m          why there is no challenge of k places beside h on a row of m numbers, or None
--     Begun k h row c      c is such a challenge before its first request: nothing was asked, nothing shown
use Rattle.std.specs.Prelude.{◌≡◌, ℕ, ◌+◌, ◌*◌, ◌≤◌, cond, ◌&&◌, List, [], length, Some, None, Option, nat_le}
use Rattle.paging.specs.Stepwise.{start}
use Rattle.lru_cache.specs.declared.refusals.Refusal.{Refusal}
use Rattle.lru_cache.specs.declared.refusals.Refusal.TheVariants.{NoCache, BadPlaces}
use Rattle.adversary.specs.declared.challenge.Challenge.{Challenge}
use Rattle.adversary.specs.Places.{shown_in, asked_in, position_in}

abbrev pub unfit : ℕ → ℕ → ℕ → Option Refusal
unfit k h m =
    cond (nat_le 1 k && (nat_le k 4096 && nat_le (3 * k + 1) m)) (cond (nat_le 1 h && nat_le h k) None (Some (BadPlaces h))) (Some NoCache)

pub record Begun (k h : ℕ) (row : List ℕ) (c : Challenge) : Type 0 where
  pub fits : unfit k h (length row) ≡ None
  pub long : 3 * k + 1 ≤ length row
  pub k_is : c.k ≡ k
  pub h_is : c.h ≡ h
  pub position : position_in c row ≡ start
  pub asked : asked_in c ≡ []
  pub shown : shown_in c row ≡ []
