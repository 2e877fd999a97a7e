-- A run request by request: where it stands, and why it stops.
use Rattle.std.proofs.Common.{◌≡◌, ℕ, ◌+◌, ◌*◌, true, leb, List, [], ◌∷◌, ◌++◌, length, drop, Some, sym, refl, ap, ◌∙◌, append_assoc, append-nil, arith}
use Rattle.std.proofs.lemmas.Bool.{le-leb}
use Rattle.paging.specs.Guarded.{kept}
use Rattle.paging.specs.Policies.{Policy}
use Rattle.paging.specs.Stepwise.{Play, start, next_request, moved, step, plays}
use Rattle.paging.proofs.Steps.{plays_add}
use Rattle.lru_cache.specs.declared.refusals.Refusal.{Refusal}
use Rattle.adversary.specs.declared.challenge.Challenge.{Challenge}
use Rattle.adversary.specs.Begins.{Begun}
use Rattle.adversary.specs.Runs.{Led}
use Rattle.runs.specs.Runs.{played, asked_of, before_of, earlier, Against, stops, Halted}
use Rattle.adversary.specs.Steps.{refusal_in, if_long, Stepped}
use Rattle.runs.proofs.Keeping.{kept_now, refusal_none}

-- before the first request
pub against_none : (k h : ℕ) (policy : Policy) (row : List ℕ) (c : Challenge) → Begun k h row c → Against k h policy 0 c row
unfolding plays
against_none k h policy row c b =
    record { k_is = b.k_is; h_is = b.h_is; long = b.long; position = b.position; asked = b.asked; before = b.shown; keeps_rules = refl }

played_more : (k h : ℕ) (policy : Policy) (n : ℕ) → played k h policy (n + 1) ≡ step k h policy (played k h policy n)
unfolding plays
played_more k h policy n = plays_add k h policy n 1 (n + 1) (record { position = start; history = [] }) refl

module _ (k h : ℕ) (policy : Policy) (n : ℕ) (c : Challenge) (row : List ℕ) (a : Against k h policy n c row) where
  abbrev x : Play
  x = played k h policy n

  -- what a refusal says of the policy
  refusal_is : (shown : List ℕ) → shown ≡ policy x.history → refusal_in c row shown ≡ stops k h policy n
  refusal_is shown is = rw (a.position, a.asked, a.before, is, a.k_is)

  pub against_stops : (shown : List ℕ) (e : Refusal) → shown ≡ policy x.history → if_long c row (refusal_in c row shown) ≡ Some e → stops k h policy n ≡ Some e
  against_stops shown e is why =
      let long = a.long in
      let same = a.k_is in
      let t : leb (3 * c.k + 1) (length row) ≡ true = le-leb (3 * c.k + 1) (length row) (rw same long) in
      sym (refusal_is shown is) ∙ (simp t at why)

  module _ (shown : List ℕ) (is : shown ≡ policy x.history) (c' : Challenge) (row' : List ℕ) (s : Stepped c row shown c' row') where
    page_is : c'.last ≡ next_request k x.position (policy x.history)
    page_is = rw (a.position, is, a.k_is) at s.page_is

    step_is : played k h policy (n + 1) ≡ record { position = moved k h x.position c'.last; history = c'.last ∷ x.history }
    unfolding step
    step_is = played_more k h policy n ∙ rw page_is

    pub history_more : (played k h policy (n + 1)).history ≡ c'.last ∷ x.history
    history_more = ap (λ (y : Play). y.history) step_is

    rules_now : kept k policy x.history ≡ true
    rules_now = kept_now k policy x.history a.keeps_rules (refusal_none k x.position _ _ _ (sym (refusal_is shown is) ∙ s.none))

    pub against_more : length row' ≡ length row → Against k h policy (n + 1) c' row'
    against_more same =
        let long = a.long in
        let k_is = s.k_is ∙ a.k_is in
        let h_is = s.h_is ∙ a.h_is in
        let position = rw (a.position, a.k_is, a.h_is) at s.position in
        record {
          k_is = k_is;
          h_is = h_is;
          long = omega arith;
          position = position ∙ sym (ap (λ (y : Play). y.position) step_is);
          asked = s.asked ∙ sym (ap asked_of history_more);
          before = s.shown_is ∙ is ∙ sym (ap (before_of policy) history_more);
          keeps_rules = ap (earlier k policy) history_more ∙ rules_now;
        }

-- the policy after one more request
pub led_more : (policy now later : Policy) (history : List ℕ) (page : ℕ) → Led policy history now → Led now (page ∷ []) later → Led policy (page ∷ history) later
led_more policy now later history page led next further = next further ∙ led (further ++ page ∷ []) ∙ ap policy (append_assoc further (page ∷ []) history)

pub led_none : (k h : ℕ) (policy : Policy) → Led policy (played k h policy 0).history policy
unfolding plays
led_none k h policy further = ap policy (sym (append-nil further))

module _ (k h : ℕ) (policy : Policy) (n : ℕ) (c : Challenge) (row : List ℕ) (a : Against k h policy n c row) where
  pub led_at :
      (shown : List ℕ) (is : shown ≡ policy (played k h policy n).history) (c' : Challenge) (row' : List ℕ) (s : Stepped c row shown c' row')
      (current later : Policy) → Led policy (played k h policy n).history current → Led current (c'.last ∷ []) later →
      Led policy (played k h policy (n + 1)).history later
  led_at shown is c' row' s current later led next =
      rw (history_more k h policy n c row a shown is c' row' s) (led_more policy current later (played k h policy n).history c'.last led next)

  pub beyond_more : (shown : List ℕ) (c' : Challenge) (row' : List ℕ) → Stepped c row shown c' row' → drop (3 * k + 1) row' ≡ drop (3 * k + 1) row
  beyond_more shown c' row' s = rw a.k_is at s.beyond

  pub halted :
      (current : Policy) → Led policy (played k h policy n).history current → (e : Refusal) → if_long c row (refusal_in c row (current [])) ≡ Some e →
      (row' : List ℕ) → row' ≡ row → (later : Policy) → later ≡ current → Halted k h policy n e row' later
  halted current led e why row' same later stays =
      record {
        why = against_stops k h policy n c row a (current []) e (led []) why;
        led = rw stays led;
        stands = c;
        against = rw same a;
      }
