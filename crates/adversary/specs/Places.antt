-- What a challenge and its row stand for. Assumes nothing: these are definitions.
--     listed_in c row      the round's list as far as it is requested
--     picked_in c row      the pages picked from it in the second part, each once
--     shown_in c row       what the policy showed before the request that came last
--     asked_in c           the request that came last, if one did
--     position_in c row    where the adversary stands
use Rattle.std.specs.Prelude.{ℕ, ◌+◌, ◌*◌, cond, List, [], ◌∷◌, take, drop, nat_lt}
use Rattle.paging.specs.Stepwise.{Position}
use Rattle.adversary.specs.declared.challenge.Challenge.{Challenge}

abbrev pub listed_in : Challenge → List ℕ → List ℕ
listed_in c row = take c.listed row

abbrev pub picked_in : Challenge → List ℕ → List ℕ
picked_in c row = take c.noted (drop (c.k + 1) row)

abbrev pub shown_in : Challenge → List ℕ → List ℕ
shown_in c row = take c.shown (drop (2 * c.k + 1) row)

abbrev pub asked_in : Challenge → List ℕ
asked_in c = cond (nat_lt 1 c.next) (c.last ∷ []) []

abbrev pub position_in : Challenge → List ℕ → Position
position_in c row = record { next = c.next; pages = listed_in c row; picked = picked_in c row; picks = c.picks }
