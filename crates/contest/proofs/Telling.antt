-- Requests told one after the other: what is told so far, and then one line more.
use Rattle.std.proofs.Common.{◌≡◌, ℕ, zero, suc, ◌+◌, ◌<◌, List, [], ◌∷◌, ◌++◌, Some, sym, refl, ◌∙◌, add-one, append_assoc, append-nil}
use Rattle.paging.specs.Policies.{Policy}
use Rattle.paging.specs.Stepwise.{Play, next_request, step, plays}
use Rattle.adversary.specs.Runs.{Led}
use Rattle.adversary.specs.Steps.{refusal_in, if_long, Stepped}
use Rattle.adversary.specs.declared.challenge.Challenge.{Challenge}
use Rattle.trace.specs.Lines.{line_bytes}
use Rattle.telling.specs.Told.{said}
use Rattle.contest.specs.Contest.{position_at, lines_from, Turned, Told, Refused, Halted}
use Rattle.contest.proofs.Going.{turned_of, turned_none, turned_more}
use Rattle.lru_cache.specs.declared.stops.Stop.{Stop}
use Rattle.lru_cache.specs.declared.stops.Stop.TheVariants as stop

pub told_none : (policy : Policy) (c : Challenge) (row text : List ℕ) → Told policy 0 c row text policy c row text
unfolding lines_from
told_none policy c row text =
    let t = turned_none policy c row in
    record { lines = sym (append-nil text); position = t.position; led = t.led; k_is = t.k_is; h_is = t.h_is }

-- one request
turned_one :
    {now later : Policy} {c c' : Challenge} {row row' : List ℕ} → Stepped c row (now []) c' row' → Led now (c'.last ∷ []) later →
    Turned now 1 c row later c' row'
unfolding plays step
turned_one s led = record { position = rw (← s.page_is) s.position; led = rw (← s.page_is) led; k_is = s.k_is; h_is = s.h_is }

lines_more :
    (k h : ℕ) (policy : Policy) (n : ℕ) (x : Play) →
    lines_from k h policy (suc n) x ≡ lines_from k h policy n x ++ lines_from k h policy 1 (plays k h policy n x)
unfolding lines_from plays
lines_more k h policy zero x = refl
lines_more k h policy (suc n) x = rw (lines_more k h policy n (step k h policy x), append_assoc)

module _ {policy now later : Policy} {n : ℕ} {c₀ c c' : Challenge} {row₀ row row' text₀ text text' : List ℕ} where
  pub told_more :
      Told policy n c₀ row₀ text₀ now c row text → Stepped c row (now []) c' row' → Led now (c'.last ∷ []) later →
      text' ≡ text ++ (line_bytes (said c'.last (now []) (later [])) ++ (10 ∷ [])) → Told policy (n + 1) c₀ row₀ text₀ later c' row' text'
  unfolding lines_from
  told_more t s led wrote =
      let k = c₀.k in
      let h = c₀.h in
      let x₀ = position_at c₀ row₀ in
      let x = plays k h policy n x₀ in
      let all = turned_more (n + 1) refl (turned_of t) (turned_one s led) in
      let shown : now [] ≡ policy x.history = t.led [] in
      let page : c'.last ≡ next_request k x.position (now []) = rw (← t.position, ← t.k_is) s.page_is in
      let after : later [] ≡ policy (c'.last ∷ x.history) = led [] ∙ t.led (c'.last ∷ []) in
      let line : lines_from k h policy 1 x ≡ line_bytes (said c'.last (now []) (later [])) ++ (10 ∷ []) = rw (← shown, ← page, ← after) in
      record {
        lines = wrote ∙ rw (add-one n, lines_more k h policy n x₀, line, t.lines, append_assoc);
        position = all.position;
        led = all.led;
        k_is = all.k_is;
        h_is = all.h_is;
      }

-- a request that is refused leaves what was told
module _ {K T : Type 0} (shows : K → Policy) (bytes : T → List ℕ) {policy : Policy} {n i : ℕ} {c₀ c : Challenge} {row₀ row text₀ : List ℕ} where
  pub told_stops :
      (s : Stop) (keeper keeper' : K) (row' : List ℕ) (text text' : T) → i < n → Told policy i c₀ row₀ text₀ (shows keeper) c row (bytes text) →
      Refused s (λ e. if_long c row (refusal_in c row (shows keeper [])) ≡ Some e) →
      Refused s (λ _. (row' ≡ row) × (keeper' ≡ keeper) × (text' ≡ text)) →
      Refused s (λ e. Halted policy n c₀ row₀ text₀ e (shows keeper') row' (bytes text'))
  told_stops (stop.Refused e) keeper keeper' row' text text' lt t why same =
      rw (same.0, same.1, same.2) (record { made = i; few = lt; stands = c; told = t; why = why })
  told_stops stop.Memory keeper keeper' row' text text' lt t why same = tt
