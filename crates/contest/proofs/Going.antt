-- Requests made one after the other: n of them, and then m more, are the adversary's first n + m.
use Rattle.std.proofs.Common.{◌≡◌, ℕ, zero, suc, ◌+◌, ◌*◌, ◌<◌, ◌≤◌, List, [], ◌++◌, sym, refl, ap, ◌∙◌, append_assoc, append-nil}
use Rattle.paging.specs.Adversary.{adversary}
use Rattle.paging.specs.Policies.{Policy, history_after}
use Rattle.paging.specs.Stepwise.{Play, Position, start, begins, step, plays}
use Rattle.paging.proofs.Played.{plays_exactly}
use Rattle.paging.proofs.Steps.{plays_add}
use Rattle.adversary.specs.Begins.{Begun}
use Rattle.adversary.specs.Runs.{Led}
use Rattle.adversary.specs.declared.challenge.Challenge.{Challenge}
use Rattle.contest.specs.Contest.{position_at, Turned, Told}

-- what was told was done
pub turned_of :
    {policy : Policy} {n : ℕ} {c : Challenge} {row text : List ℕ} {after : Policy} {c' : Challenge} {row' text' : List ℕ} →
    Told policy n c row text after c' row' text' → Turned policy n c row after c' row'
turned_of t = record { position = t.position; led = t.led; k_is = t.k_is; h_is = t.h_is }

-- a play that began earlier, with these requests before it
abbrev with_past : List ℕ → Play → Play
with_past past x = record { position = x.position; history = x.history ++ past }

plays_with_past :
    (k h : ℕ) (policy now : Policy) (past : List ℕ) → Led policy past now → (n : ℕ) (x : Play) →
    plays k h policy n (with_past past x) ≡ with_past past (plays k h now n x)
unfolding plays step
plays_with_past k h policy now past led zero x = refl
plays_with_past k h policy now past led (suc n) x = rw (← led x.history) (plays_with_past k h policy now past led n (step k h now x))

pub turned_none : (policy : Policy) (c : Challenge) (row : List ℕ) → Turned policy 0 c row policy c row
unfolding plays
turned_none policy c row = record { position = refl; led = λ further. ap policy (sym (append-nil further)); k_is = refl; h_is = refl }

-- so many requests, told by another sum
pub turned_same :
    {policy : Policy} {n m : ℕ} {c : Challenge} {row : List ℕ} {after : Policy} {c' : Challenge} {row' : List ℕ} →
    n ≡ m → Turned policy n c row after c' row' → Turned policy m c row after c' row'
turned_same e t = rw (← e) t

module _ {policy now later : Policy} {n m : ℕ} {c c' c'' : Challenge} {row row' row'' : List ℕ} where
  pub turned_more :
      (total : ℕ) → total ≡ n + m → Turned policy n c row now c' row' → Turned now m c' row' later c'' row'' →
      Turned policy total c row later c'' row''
  turned_more total e s t =
      let k = c.k in
      let h = c.h in
      let x = plays k h policy n (position_at c row) in
      let y = plays k h now m (position_at c' row') in
      let is : plays k h policy total (position_at c row) ≡ with_past x.history y =
      plays_add k h policy n m total (position_at c row) e
      ∙ ap (λ (p : Position). plays k h policy m (record { position = p; history = x.history })) (sym s.position)
      ∙ plays_with_past k h policy now x.history s.led m (position_at c' row') in
      let led : Led now y.history later = rw (← s.k_is, ← s.h_is) t.led in
      record {
        position = rw (is, ← s.k_is, ← s.h_is) t.position;
        led = λ further. rw is (led further ∙ s.led (further ++ y.history) ∙ ap policy (append_assoc further y.history x.history));
        k_is = t.k_is ∙ s.k_is;
        h_is = t.h_is ∙ s.h_is;
      }

-- from the beginning, the requests of the opening and of m rounds are the adversary's
module _ (k h m : ℕ) (policy now : Policy) (c c' : Challenge) (row row' : List ℕ) where
  pub all_asked : Begun k h row c → Turned policy (h + m * k) c row now c' row' → Led policy (history_after [] (adversary k h policy m)) now
  unfolding begins
  all_asked b s =
      let low : 0 < h = rw b.h_is at c.low in
      let within : h ≤ k = rw (b.k_is, b.h_is) at c.within in
      let e = plays_exactly k h m policy low within in
      let from : position_at c row ≡ record { position = start; history = [] } = ap (λ (p : Position). record { position = p; history = [] }) b.position in
      let is : (plays c.k c.h policy (h + m * k) (position_at c row)).history ≡ history_after [] (adversary k h policy m) =
      rw (from, b.k_is, b.h_is, e.0) e.1 in
      λ further. s.led further ∙ ap (λ (xs : List ℕ). policy (further ++ xs)) is
