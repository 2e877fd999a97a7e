-- How long the lists of a challenge are in a row that is long enough.
use Rattle.std.proofs.Common.{◌≡◌, ℕ, ◌+◌, ◌*◌, ◌≤◌, List, length, drop, arith}
use Rattle.std.proofs.lemmas.List.{length-take, length-drop}
use Rattle.adversary.specs.Places.{listed_in, picked_in, shown_in}
use Rattle.adversary.specs.declared.challenge.Challenge.{Challenge}

module _ (c : Challenge) (row : List ℕ) (long : 3 * c.k + 1 ≤ length row) where
  pub length_listed : length (listed_in c row) ≡ c.listed
  length_listed = let l = length-take c.listed row in let f = c.full in let h = c.low in let w = c.within in omega arith

  pub length_picked : length (picked_in c row) ≡ c.noted
  length_picked =
      let l = length-take c.noted (drop (c.k + 1) row) in
      let d = length-drop (c.k + 1) row in
      let e = c.each in
      let f = c.few in
      let w = c.within in
      omega arith

  pub length_shown : length (shown_in c row) ≡ c.shown
  length_shown = let l = length-take c.shown (drop (2 * c.k + 1) row) in let d = length-drop (2 * c.k + 1) row in let e = c.held in omega arith
