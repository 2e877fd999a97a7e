-- A whole run: from the rules kept along it to its counts, and why it stops.
use Rattle.std.proofs.Common.{◌≡◌, ℕ, ◌+◌, ◌*◌, ◌<◌, ◌≤◌, true, false, ltb, leb, List, [], length, Some, None, Option, sym, ap, ◌∙◌, arith}
use Rattle.std.proofs.lemmas.Bool.{le-leb, lt-ltb, le-ltb}
use Rattle.paging.specs.Adversary.{adversary}
use Rattle.paging.specs.Policies.{Policy, history_after}
use Rattle.paging.specs.Stepwise.{Play, begins}
use Rattle.paging.proofs.Guards.{kept_counts}
use Rattle.paging.proofs.Played.{plays_exactly}
use Rattle.adversary.specs.declared.challenge.Challenge.{Challenge}
use Rattle.trace.specs.declared.totals.Totals.{Totals}
use Rattle.runs.specs.declared.stopped.Stopped.{Stopped}
use Rattle.adversary.specs.Places.{asked_in, shown_in}
use Rattle.adversary.specs.Rules.{broken}
use Rattle.adversary.specs.Runs.{Led}
use Rattle.runs.specs.Runs.{played, broken_after, Against, Halted}
use Rattle.adversary.specs.Steps.{told, fault_in, if_long}
use Rattle.runs.specs.Whole.{Ran, Broke}
use Rattle.telling.specs.Told.{totals_of}
use Rattle.runs.proofs.Keeping.{kept_now}

pub asked_is : (t : Totals) (k h m : ℕ) → t ≡ totals_of k h m → t.asked ≡ h + m * k
asked_is t k h m is = ap (λ (u : Totals). u.asked) is

module _ (k h m : ℕ) (policy : Policy) (low : 0 < h) (le : h ≤ k) where
  history_whole : (played k h policy (h + m * k)).history ≡ history_after [] (adversary k h policy m)
  unfolding begins
  history_whole =
      let e = plays_exactly k h m policy low le in
      ap (λ (x : Play). x.history) e.0 ∙ e.1

  module _ (c : Challenge) (row : List ℕ) (a : Against k h policy (h + m * k) c row) (shown : List ℕ) where
    abbrev history : List ℕ
    history = (played k h policy (h + m * k)).history

    broken_is : shown ≡ policy history → broken c.k (asked_in c) (shown_in c row) shown ≡ broken_after k policy history
    broken_is is = rw (a.asked, a.before, is, a.k_is)

    pub whole_ran :
        shown ≡ policy history → broken c.k (asked_in c) (shown_in c row) shown ≡ None → (current : Policy) → Led policy history current →
        (r : Totals) → r ≡ totals_of k h m → Ran k h policy m r row current
    whole_ran is none current led r totals =
        let all = kept_now k policy history a.keeps_rules (sym (broken_is is) ∙ none) in
        record {
          asked_is = asked_is r k h m totals;
          keeper_is = ap (λ (t : Totals). t.keeper) totals;
          rival_is = ap (λ (t : Totals). t.rival) totals;
          counted = kept_counts k h m policy low le (rw history_whole at all);
          led = rw history_whole at led;
          stands = c;
          against = a;
        }

    pub whole_broke :
        shown ≡ policy history → (s : Stopped) → s.after ≡ h + m * k → if_long c row (fault_in c row shown) ≡ Some s.refusal →
        (current : Policy) → Led policy history current → Broke k h policy m s row current
    whole_broke is s after why current led =
        let long = a.long in
        let same = a.k_is in
        let t : leb (3 * c.k + 1) (length row) ≡ true = le-leb (3 * c.k + 1) (length row) (rw same long) in
        let u : ltb (h + m * k) (h + m * k) ≡ false = le-ltb (h + m * k) (h + m * k) (omega arith) in
        let v : told (broken_after k policy history) None ≡ Some s.refusal = ap (λ (o : Option ℕ). told o None) (sym (broken_is is)) ∙ (simp t at why) in
        record {
          far = omega arith;
          why = rw after (simp u v);
          led = rw after led;
          stands = c;
          against = rw after a;
        }

-- stopped before the last request
pub halted_broke :
    (k h m : ℕ) (policy : Policy) (s : Stopped) (row : List ℕ) (current : Policy) → s.after < h + m * k →
    Halted k h policy s.after s.refusal row current → Broke k h policy m s row current
halted_broke k h m policy s row current lt x =
    let t = lt-ltb s.after (h + m * k) lt in
    record { far = omega arith; why = simp t x.why; led = x.led; stands = x.stands; against = x.against }
