-- A guarded policy obeys the rules, and along a run in which the policy kept them the adversary can't tell the two apart.
use Rattle.std.proofs.Common.{◌≡◌, ℕ, zero, suc, ◌-◌, true, List, [], ◌∷◌, length, sym, refl, ap, ◌∙◌, arith}
use Rattle.std.proofs.lemmas.List.{nil_from_length}
use Rattle.std.proofs.lemmas.Bool.Decides.{nat_tests}
use Rattle.paging.specs.Adversary.{
  first_missing,
  Round,
  opened,
  new_pages,
  pages_of,
  picks,
  second_part,
  requests,
  next_list,
  next_round,
  trace_from,
  schedule_from,
  adversary,
  beside,
}
use Rattle.paging.specs.Guarded.{kept, guarded, ObeysKept, GuardedObeys, GuardedSame, KeptCounts}
use Rattle.paging.specs.Lists.{has}
use Rattle.paging.specs.Policies.{Policy, history_after, policy_fetches, keeps}
use Rattle.paging.specs.Schedules.{only_adds}
use Rattle.paging.proofs.Counts.{exact_counts}
use Rattle.paging.proofs.Histories.{history_append}

pub obeys_kept : ObeysKept
unfolding kept
obeys_kept k policy [] o = let e = ap length o.starts in grind (arith, nat_tests)
obeys_kept k policy (page ∷ history) o = let i = obeys_kept k policy history o in let g = o.goes page history in grind (arith, nat_tests)

pub guarded_obeys : GuardedObeys
unfolding guarded keeps has only_adds
guarded_obeys k policy pos = record { starts = refl; goes = λ page history. grind (arith, nat_tests) }

pub guarded_same : GuardedSame
unfolding guarded kept
guarded_same k policy [] all = sym (nil_from_length (policy []) (grind (arith, nat_tests)))
guarded_same k policy (page ∷ history) all =
    let i = guarded_same k policy history (grind (arith, nat_tests)) in
    rw i (grind (arith, nat_tests))

module _ (k : ℕ) (policy : Policy) where
  kept_before : (history trace : List ℕ) → kept k policy (history_after history trace) ≡ true → kept k policy history ≡ true
  unfolding history_after kept
  kept_before history [] all = all
  kept_before history (page ∷ trace) all = let i = kept_before (page ∷ history) trace all in grind (arith, nat_tests)

  guarded_fetches : (history : List ℕ) → kept k policy history ≡ true → policy_fetches (guarded k policy) history ≡ policy_fetches policy history
  unfolding policy_fetches kept
  guarded_fetches [] all = refl
  guarded_fetches (page ∷ history) all =
      let before : kept k policy history ≡ true = grind (arith, nat_tests) in
      let i = guarded_fetches history before in
      rw (guarded_same k policy history before, i)

  guarded_picks :
      (pages history : List ℕ) (c : ℕ) → kept k policy (history_after history (picks policy pages history c)) ≡ true →
      picks (guarded k policy) pages history c ≡ picks policy pages history c
  unfolding picks history_after
  guarded_picks pages history zero all = refl
  guarded_picks pages history (suc c) all =
      let page = first_missing pages (policy history) in
      let i = guarded_picks pages (page ∷ history) c all in
      let before = kept_before history (page ∷ picks policy pages (page ∷ history) c) all in
      rw (guarded_same k policy history before, i)

  module _ (h : ℕ) where
    guarded_second :
        (r : Round) → kept k policy (history_after r.history (requests k h policy r)) ≡ true →
        second_part k h (guarded k policy) r ≡ second_part k h policy r
    unfolding second_part requests
    guarded_second r all =
        guarded_picks (pages_of k h r) (history_after r.history (new_pages k h r)) (h - 1) (rw history_append at all)

    guarded_list :
        (r : Round) → kept k policy (history_after r.history (requests k h policy r)) ≡ true →
        next_list k h (guarded k policy) r ≡ next_list k h policy r
    unfolding next_list
    guarded_list r all = rw (guarded_second r all)

    guarded_requests :
        (r : Round) → kept k policy (history_after r.history (requests k h policy r)) ≡ true →
        requests k h (guarded k policy) r ≡ requests k h policy r
    unfolding requests
    guarded_requests r all = rw (guarded_second r all)

    guarded_next :
        (r : Round) → kept k policy (history_after r.history (requests k h policy r)) ≡ true →
        next_round k h (guarded k policy) r ≡ next_round k h policy r
    unfolding next_round
    guarded_next r all = rw (guarded_list r all, guarded_requests r all)

    guarded_rounds :
        (m : ℕ) (r : Round) → kept k policy (history_after r.history (trace_from k h policy m r)) ≡ true →
        (trace_from k h (guarded k policy) m r ≡ trace_from k h policy m r)
        × (schedule_from k h (guarded k policy) m r ≡ schedule_from k h policy m r)
    unfolding trace_from schedule_from next_round
    guarded_rounds zero r all = (refl, refl)
    guarded_rounds (suc m) r all =
        let next = next_round k h policy r in
        let whole : kept k policy (history_after next.history (trace_from k h policy m next)) ≡ true = rw history_append at all in
        let first = kept_before next.history (trace_from k h policy m next) whole in
        let i = guarded_rounds m next whole in
        let same = guarded_next r first in
        (rw (same, guarded_requests r first, i.0), rw (same, guarded_list r first, i.1))

guarded_run :
    (k h m : ℕ) (policy : Policy) → kept k policy (history_after [] (adversary k h policy m)) ≡ true →
    (adversary k h (guarded k policy) m ≡ adversary k h policy m) × (beside k h (guarded k policy) m ≡ beside k h policy m)
unfolding adversary beside opened
guarded_run k h m policy all =
    let whole : kept k policy (history_after (opened h).history (trace_from k h policy m (opened h))) ≡ true = rw history_append at all in
    let same = guarded_rounds k policy h m (opened h) whole in
    (rw same.0, rw same.1)

pub kept_counts : KeptCounts
kept_counts k h m policy pos le all =
    let same = guarded_run k h m policy all in
    let c = exact_counts k h m (guarded k policy) pos le (guarded_obeys k policy (omega arith)) in
    let f = guarded_fetches k policy (history_after [] (adversary k h policy m)) all in
    record {
      requested = rw same.0 at c.requested;
      fetched = sym f ∙ (rw same.0 at c.fetched);
      allowed = rw (same.0, same.1) at c.allowed;
      fetched_beside = rw (same.0, same.1) at c.fetched_beside;
    }
