-- A request entered. Assumes nothing: these are definitions.
--     Over c row noted c' row'         the round is over: the schedule's list stands in front, and a new round begins
--     Moved c row page n c' row'       a request for page is entered, before which n pages were shown
use Rattle.std.specs.Prelude.{◌≡◌, ℕ, ◌+◌, ◌-◌, ◌*◌, ◌<◌, List, [], ◌∷◌, take, drop}
use Rattle.paging.specs.Adversary.{once_each}
use Rattle.paging.specs.Stepwise.{moved}
use Rattle.adversary.specs.declared.challenge.Challenge.{Challenge}
use Rattle.adversary.specs.Places.{position_in}

pub record Over (c : Challenge) (row : List ℕ) (noted : ℕ) (c' : Challenge) (row' : List ℕ) : Type 0 where
  pub position : position_in c' row'
      ≡ record { next = c.next; pages = take c.h (once_each (take noted (drop (c.k + 1) row)) ((c.next - 1) ∷ take (c.k + 1) row)); picked = []; picks = 0 }
  pub last_is : c'.last ≡ c.last
  pub shown_is : c'.shown ≡ c.shown
  pub k_is : c'.k ≡ c.k
  pub h_is : c'.h ≡ c.h
  pub next_is : c'.next ≡ c.next
  pub rest : drop (2 * c.k + 1) row' ≡ drop (2 * c.k + 1) row

pub record Moved (c : Challenge) (row : List ℕ) (page n : ℕ) (c' : Challenge) (row' : List ℕ) : Type 0 where
  pub position : position_in c' row' ≡ moved c.k c.h (position_in c row) page
  pub last_is : c'.last ≡ page
  pub shown_is : c'.shown ≡ n
  pub k_is : c'.k ≡ c.k
  pub h_is : c'.h ≡ c.h
  pub begun : 1 < c'.next
  pub rest : drop (2 * c.k + 1) row' ≡ drop (2 * c.k + 1) row
