-- The adversary counted out: against a policy that obeys the rules each request is fetched, and beside it only the new pages.
use Rattle.std.proofs.Common.{◌≡◌, ℕ, zero, suc, ◌+◌, ◌-◌, ◌*◌, ◌<◌, ◌≤◌, true, List, [], ◌∷◌, ◌++◌, length, refl, ap, arith}
use Rattle.std.proofs.lemmas.List.{append_assoc, length-append}
use Rattle.std.proofs.lemmas.Bool.Decides.{nat_tests}
use Rattle.paging.specs.Adversary.{
  fresh,
  once_each,
  Round,
  opened,
  new_pages,
  pages_of,
  second_part,
  requests,
  last_new,
  next_list,
  next_round,
  trace_from,
  held,
  served,
  schedule_from,
  adversary,
  beside,
}
use Rattle.paging.specs.Lists.{has}
use Rattle.paging.specs.LowerBound.{Counted, ExactCounts, NoPolicyBeats}
use Rattle.paging.specs.Policies.{Policy, history_after, policy_fetches, Obeys}
use Rattle.paging.specs.Schedules.{feasible, schedule_fetches}
use Rattle.paging.proofs.Appends.{has_append}
use Rattle.paging.proofs.Beside.{Ending, held_fits, held_apart, held_keeps, held_under, served_new, served_held}
use Rattle.paging.proofs.Fresh.{
  Under,
  has_fresh,
  length_fresh,
  distinct_fresh,
  has_once_each,
  once_each_append,
  length_once_each,
  seen_first,
}
use Rattle.paging.proofs.Histories.{
  AllFetched,
  history_append,
  has_history,
  length_history,
  fresh_fetched,
  picks_fetched,
  picks_within,
}
use Rattle.paging.proofs.Lists.{Within, has_from_take}
use Rattle.paging.proofs.Rounds.{Begun, begun_opened, begun_next, length_picks, pages_apart, pages_many, second_under, all_pages, has_all}

opening_ends : (h : ℕ) → 0 < h → Ending h h (fresh h 1)
opening_ends h pos =
    record {
      apart = distinct_fresh h 1;
      fits = omega (arith, length_fresh h 1);
      here = let a = has_fresh h 1 h in grind (arith, nat_tests);
    }

opening_new : (h x : ℕ) → x < 1 → has (fresh h 1) x ≡ true → has [] x ≡ true
opening_new h x lt here = let a = has_fresh h 1 x in grind (arith, nat_tests)

-- the opening is a part with new pages too
opening_served :
    (h : ℕ) (trace : List ℕ) (schedule : List (List ℕ)) → 0 < h → feasible h (held (fresh h 1) h) trace schedule ≡ true →
    (feasible h [] (fresh h 1 ++ trace) (served (fresh h 1) (fresh h 1) ++ schedule) ≡ true)
    × (schedule_fetches [] (fresh h 1 ++ trace) (served (fresh h 1) (fresh h 1) ++ schedule)
    ≡ h + schedule_fetches (held (fresh h 1) h) trace schedule)
unfolding has
opening_served zero trace schedule pos ok = absurd (omega arith)
opening_served (suc c) trace schedule pos ok =
    let list = fresh (suc c) 1 in
    let none : Under 1 [] = λ x here. grind (arith, nat_tests) in
    served_new (suc c) (suc c) list (opening_ends (suc c) pos) c 1 [] trace schedule (omega arith) none (opening_new (suc c)) ok

module _ (k h : ℕ) (policy : Policy) (pos : 0 < h) (le : h ≤ k) where
  length_second : (r : Round) → length (second_part k h policy r) ≡ h - 1
  unfolding second_part
  length_second r = length_picks policy (pages_of k h r) (history_after r.history (new_pages k h r)) (h - 1)

  length_requests : (r : Round) → length (requests k h policy r) ≡ k
  unfolding requests new_pages
  length_requests r =
      let a = length-append (new_pages k h r) (second_part k h policy r) in
      let b = length_fresh (suc (k - h)) r.next in
      let c = length_second r in
      omega arith

  length_trace : (m : ℕ) (r : Round) → length (trace_from k h policy m r) ≡ m * k
  unfolding trace_from
  length_trace zero r = omega arith
  length_trace (suc m) r =
      let i = length_trace m (next_round k h policy r) in
      let a = length-append (requests k h policy r) (trace_from k h policy m (next_round k h policy r)) in
      let b = length_requests r in
      omega arith

  -- the list at the end of a round holds all that the second part requests, and the last new page
  module _ (r : Round) where
    end_has : (x : ℕ) → has (second_part k h policy r ++ last_new k h r ∷ []) x ≡ true → has (next_list k h policy r) x ≡ true
    unfolding next_list has
    end_has x here =
        let front = second_part k h policy r ++ last_new k h r ∷ [] in
        let pages = pages_of k h r in
        let a = length_once_each [] front in
        let b = length-append (second_part k h policy r) (last_new k h r ∷ []) in
        let c = length_second r in
        let e = has_once_each [] front x in
        let f = seen_first h (once_each [] front) pages x (omega arith) (grind (arith, nat_tests)) in
        rw (← append_assoc (second_part k h policy r) (last_new k h r ∷ []) pages, once_each_append [] front pages) f

    end_second : Within (second_part k h policy r) (next_list k h policy r)
    end_second x here = let a = has_append (second_part k h policy r) (last_new k h r ∷ []) x in end_has x (grind (arith, nat_tests))

    end_last : has (next_list k h policy r) (last_new k h r) ≡ true
    unfolding has
    end_last =
        let a = has_append (second_part k h policy r) (last_new k h r ∷ []) (last_new k h r) in
        end_has (last_new k h r) (grind (arith, nat_tests))

  -- with a policy that obeys
  module _ (o : Obeys k policy) where
    module _ (r : Round) (b : Begun h r) where
      second_within : Within (second_part k h policy r) (pages_of k h r)
      unfolding second_part
      second_within =
          let more = pages_many k h r le b in
          picks_within k policy o (pages_of k h r) (pages_apart k h r le b) (omega arith) (h - 1) _

      -- what the list at the end holds of older pages stood in the list at the beginning
      end_old : (x : ℕ) → x < r.next → has (next_list k h policy r) x ≡ true → has r.list x ≡ true
      unfolding next_list pages_of new_pages all_pages
      end_old x lt here =
          let a : has (all_pages k h policy r) x ≡ true = has_from_take h (all_pages k h policy r) x here in
          let e = has_all k h r le b policy x in
          let s = second_within x in
          let p = has_append r.list (fresh (suc (k - h)) r.next) x in
          let f = has_fresh (suc (k - h)) r.next x in
          grind (arith, nat_tests)

      history_under : Under r.next r.history → Under (next_round k h policy r).next (next_round k h policy r).history
      unfolding next_round requests new_pages last_new
      history_under u x here =
          let a = has_history r.history (requests k h policy r) x in
          let e = has_append (new_pages k h r) (second_part k h policy r) x in
          let f = has_fresh (suc (k - h)) r.next x in
          let v = second_under k h r le b policy x in
          let w = u x in
          grind (arith, nat_tests)

      round_fetched : Under r.next r.history → AllFetched policy r.history → AllFetched policy (next_round k h policy r).history
      unfolding next_round requests second_part new_pages
      round_fetched u all =
          let news = fresh_fetched k policy o (suc (k - h)) r.next r.history u all in
          let more = pages_many k h r le b in
          let both = picks_fetched k policy o (pages_of k h r) (pages_apart k h r le b) (omega arith) (h - 1) _ news in
          rw history_append both

    rounds_fetched :
        (m : ℕ) (r : Round) → Begun h r → Under r.next r.history → AllFetched policy r.history →
        AllFetched policy (history_after r.history (trace_from k h policy m r))
    unfolding trace_from history_after next_round
    rounds_fetched zero r b u all = all
    rounds_fetched (suc m) r b u all =
        let next = next_round k h policy r in
        let i = rounds_fetched m next (begun_next k h r le b policy) (history_under r b u) (round_fetched r b u all) in
        rw history_append i

    rounds_beside :
        (m : ℕ) (r : Round) (before : List ℕ) → Begun h r → Under r.next before → Within r.list before →
        (feasible h before (trace_from k h policy m r) (schedule_from k h policy m r) ≡ true)
        × (schedule_fetches before (trace_from k h policy m r) (schedule_from k h policy m r) ≡ m * suc (k - h))
    unfolding trace_from schedule_from feasible schedule_fetches requests new_pages last_new next_round
    rounds_beside zero r before b u w = (refl, omega arith)
    rounds_beside (suc m) r before b u w =
        let next = next_round k h policy r in
        let begun = begun_next k h r le b policy in
        let list = next_list k h policy r in
        let last = last_new k h r in
        let ends : Ending h last list = record { apart = begun.apart; fits = omega (arith, begun.many); here = end_last r } in
        let cache = held list last in
        let keeps : Within list cache = λ x here. held_keeps list last x (begun.under x here) here in
        let second : Within (second_part k h policy r) cache = λ x here. keeps x (end_second r x here) in
        let old : (x : ℕ) → x < r.next → has list x ≡ true → has before x ≡ true = λ x lt here. w x (end_old r b x lt here) in
        let fits = held_fits h last list ends last (omega arith) in
        let apart = held_apart h last list ends last in
        let i = rounds_beside m next cache begun (held_under list last) keeps in
        let j = served_held h (h - 1) cache (second_part k h policy r) _ _ fits apart (length_second r) second i.0 in
        let n = served_new h last list ends (k - h) r.next before _ _ refl u old j.0 in
        rw append_assoc (n.0, omega (arith, n.1, j.1, i.1))

    opened_fetched : AllFetched policy (opened h).history
    unfolding opened policy_fetches has
    opened_fetched = fresh_fetched k policy o h 1 [] (λ x here. grind (arith, nat_tests)) refl

    opened_under : Under (opened h).next (opened h).history
    unfolding opened has
    opened_under x here = let a = has_history [] (fresh h 1) x in let f = has_fresh h 1 x in grind (arith, nat_tests)

    counted : (m : ℕ) → Counted k h policy m
    unfolding adversary beside opened
    counted m =
        let begun = begun_opened h in
        let rest = trace_from k h policy m (opened h) in
        let size = length_trace m (opened h) in
        let all = rounds_fetched m (opened h) begun opened_under opened_fetched in
        let joins = history_append [] (fresh h 1) rest in
        let a = length-append (fresh h 1) rest in
        let b = length_fresh h 1 in
        let c = length_history [] (fresh h 1 ++ rest) in
        let list = fresh h 1 in
        let keeps : Within list (held list h) = λ x there. held_keeps list h x (begun.under x there) there in
        let i = rounds_beside m (opened h) (held list h) begun (held_under list h) keeps in
        let j = opening_served h rest (schedule_from k h policy m (opened h)) pos i.0 in
        let news : suc k - h ≡ suc (k - h) = omega arith in
        record {
          requested = omega arith;
          fetched = rw joins (omega (arith, ap length joins));
          allowed = j.0;
          fetched_beside = rw news (omega (arith, j.1, i.1));
        }

pub exact_counts : ExactCounts
exact_counts k h m policy pos le o = counted k h policy pos le o m

pub no_policy_beats : NoPolicyBeats
no_policy_beats k h n policy pos le o =
    let c = exact_counts k h n policy pos le o in
    let parts : k ≡ (suc k - h) + (h - 1) = omega arith in
    let some : k ≡ suc (k - 1) = omega arith in
    let long : n * k ≡ n * suc (k - 1) = ap (λ z. n * z) some in
    let rest : h * k ≡ h * ((suc k - h) + (h - 1)) = ap (λ z. h * z) parts in
    let bound : k * (h + n * (suc k - h)) ≤ (suc k - h) * (h + n * k) + h * (h - 1) = omega arith in
    let count = c.requested in
    let all = c.fetched in
    (adversary k h policy n, beside k h policy n, omega arith, omega arith, c.allowed, rw (c.fetched_beside, count) bound)
