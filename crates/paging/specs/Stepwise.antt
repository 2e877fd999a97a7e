-- The adversary one request at a time, as a program plays it, and what is claimed of that. Assumes nothing: these are definitions.
--     Position                      where the adversary stands in a round: the next new page; the round's list as far as it is requested;
--                                   the pages picked from it in the second part, each once; how many requests the second part has had
--     start                         before the first request
--     complete k p                  all new pages of the round are requested
--     next_request k p shown        the page to request, where the policy's cache is shown
--     requested k p page            p with a request for page entered
--     settled k h p                 p, or where the round is over the beginning of the next one, with the schedule's list
--     moved k h p page              the position after a request for page
--     Play                          a position, and the requests so far, the latest first
--     step k h policy x             one request further
--     plays k h policy n x          n requests further
--     begins r                      the position and the requests so far where round r begins
--     Bounded k h p                 how long the lists of p are, and that each page in them was requested before or is 0
--     StaysBounded                 so it begins, and so it stays, whatever a policy shows
--     PlaysExactly                 against any policy the steps are the adversary's requests, and at the ends of rounds its list
use Rattle.std.specs.Prelude.{◌≡◌, ℕ, zero, suc, ◌+◌, ◌-◌, ◌*◌, ◌<◌, ◌≤◌, Bool, true, cond, ◌&&◌, List, [], ◌∷◌, ◌++◌, length, take, nat_le, nat_lt}
use Rattle.paging.specs.Adversary.{first_missing, once_each, Round, opened, rounds, adversary}
use Rattle.paging.specs.Lists.{has}
use Rattle.paging.specs.Policies.{Policy, history_after}

pub record Position : Type 0 where
  pub next : ℕ
  pub pages : List ℕ
  pub picked : List ℕ
  pub picks : ℕ

unfoldable pub start : Position
start = record { next = 1; pages = []; picked = []; picks = 0 }

unfoldable pub complete : ℕ → Position → Bool
complete k p = nat_lt k (length p.pages)

unfoldable pub next_request : ℕ → Position → List ℕ → ℕ
next_request k p shown = cond (complete k p) (first_missing p.pages shown) p.next

unfoldable pub requested : ℕ → Position → ℕ → Position
requested k p page =
    cond (complete k p) (record { next = p.next; pages = p.pages; picked = once_each p.picked (page ∷ []); picks = suc p.picks })
    (record { next = suc p.next; pages = p.pages ++ page ∷ []; picked = p.picked; picks = p.picks })

unfoldable pub settled : ℕ → ℕ → Position → Position
settled k h p =
    cond (complete k p && nat_le h (suc p.picks))
    (record { next = p.next; pages = take h (once_each p.picked ((p.next - 1) ∷ p.pages)); picked = []; picks = 0 }) p

unfoldable pub moved : ℕ → ℕ → Position → ℕ → Position
moved k h p page = settled k h (requested k p page)

pub record Play : Type 0 where
  pub position : Position
  pub history : List ℕ

unfoldable pub step : ℕ → ℕ → Policy → Play → Play
step k h policy x =
    let page : ℕ = next_request k x.position (policy x.history) in
    record { position = moved k h x.position page; history = page ∷ x.history }

unfoldable pub plays : ℕ → ℕ → Policy → ℕ → Play → Play
plays k h policy zero x = x
plays k h policy (suc n) x = plays k h policy n (step k h policy x)

unfoldable pub begins : Round → Play
begins r = record { position = record { next = r.next; pages = r.list; picked = []; picks = 0 }; history = r.history }

pub record Bounded (k h : ℕ) (p : Position) : Type 0 where
  pub listed : length p.pages ≤ suc k
  pub noted : length p.picked ≤ p.picks
  pub few : p.picks < h
  pub some : 0 < p.next
  pub old : (x : ℕ) → has p.pages x ≡ true → x < p.next
  pub older : (x : ℕ) → has p.picked x ≡ true → x < p.next

abbrev pub StaysBounded : Type 0
StaysBounded =
    (k h : ℕ) → 0 < h → h ≤ k →
    Bounded k h start
    × ((p : Position) (shown : List ℕ) → Bounded k h p →
    (next_request k p shown ≤ p.next) × Bounded k h (moved k h p (next_request k p shown)))

abbrev pub PlaysExactly : Type 0
PlaysExactly =
    (k h m : ℕ) (policy : Policy) → 0 < h → h ≤ k →
    (plays k h policy (h + m * k) (record { position = start; history = [] }) ≡ begins (rounds k h policy m (opened h)))
    × ((rounds k h policy m (opened h)).history ≡ history_after [] (adversary k h policy m))
    × ((rounds k h policy m (opened h)).next ≡ suc (h + m * (suc k - h)))
