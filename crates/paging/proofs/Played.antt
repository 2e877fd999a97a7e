-- Whole rounds played step by step, from the opening on: exactly the construction, against any policy.
use Rattle.std.proofs.Common.{◌≡◌, ℕ, zero, suc, ◌+◌, ◌-◌, ◌*◌, ◌<◌, ◌≤◌, [], ◌∷◌, refl, ap, ◌∙◌, arith}
use Rattle.std.proofs.lemmas.List.{append-nil}
use Rattle.paging.specs.Adversary.{
  once_each,
  Round,
  opened,
  new_pages,
  pages_of,
  picks,
  second_part,
  requests,
  last_new,
  next_list,
  next_round,
  rounds,
  trace_from,
  adversary,
}
use Rattle.paging.specs.Policies.{Policy, history_after}
use Rattle.paging.specs.Stepwise.{start, plays, begins, PlaysExactly}
use Rattle.paging.proofs.Fresh.{once_each_append}
use Rattle.paging.proofs.Histories.{history_append}
use Rattle.paging.proofs.Rounds.{Begun, begun_opened, begun_next, pages_many}
use Rattle.paging.proofs.Steps.{over, plays_add, plays_new, plays_new_over, plays_picks}

round_over :
    (k h : ℕ) (policy : Policy) (r : Round) →
    begins (next_round k h policy r)
    ≡ over h (suc (last_new k h r)) (pages_of k h r) (once_each [] (second_part k h policy r)) (history_after r.history (requests k h policy r))
unfolding begins next_round next_list
round_over k h policy r =
    let e = once_each_append [] (second_part k h policy r) (last_new k h r ∷ pages_of k h r) in
    let last : suc (last_new k h r) - 1 ≡ last_new k h r = omega arith in
    rw (last, e)

module _ (k : ℕ) (policy : Policy) (r : Round) where
  round_short : 1 ≤ k → Begun 1 r → plays k 1 policy k (begins r) ≡ begins (next_round k 1 policy r)
  unfolding begins last_new pages_of new_pages second_part requests picks once_each
  round_short le b =
      let count : k ≡ suc (k - 1) = omega arith in
      let size = b.many in
      let e = plays_new_over k 1 policy (k - 1) r.next r.list [] 0 r.history (omega arith) (omega arith) in
      ap (λ t. plays k 1 policy t (begins r)) count ∙ rw (round_over k 1 policy r, append-nil) e

  round_long : (g : ℕ) → suc (suc g) ≤ k → Begun (suc (suc g)) r → plays k (suc (suc g)) policy k (begins r) ≡ begins (next_round k (suc (suc g)) policy r)
  unfolding begins last_new new_pages second_part requests pages_of
  round_long g le b =
      let h = suc (suc g) in
      let size = b.many in
      let many = pages_many k h r le b in
      let parts = plays_add k h policy (suc (k - h)) (suc g) k (begins r) (omega arith) in
      let news = plays_new k h policy (suc (k - h)) r.next r.list [] 0 r.history (omega arith) (λ _. omega arith) in
      let warm = history_after r.history (new_pages k h r) in
      let rest = plays_picks k h policy g (r.next + suc (k - h)) (pages_of k h r) [] 0 warm (omega arith) (omega arith) in
      let last : r.next + suc (k - h) ≡ suc (r.next + (k - h)) = omega arith in
      let left : h - 1 ≡ suc g = omega arith in
      parts ∙ ap (plays k h policy (suc g)) news ∙ rest ∙ rw (round_over k h policy r, left, last, history_append)

plays_round :
    (k h : ℕ) (policy : Policy) (r : Round) → 0 < h → h ≤ k → Begun h r →
    plays k h policy k (begins r) ≡ begins (next_round k h policy r)
plays_round k zero policy r pos le b = absurd (omega arith)
plays_round k (suc zero) policy r pos le b = round_short k policy r le b
plays_round k (suc (suc g)) policy r pos le b = round_long k policy r g le b

plays_rounds :
    (k h : ℕ) (policy : Policy) → 0 < h → h ≤ k → (m : ℕ) (r : Round) → Begun h r →
    plays k h policy (m * k) (begins r) ≡ begins (rounds k h policy m r)
unfolding plays rounds
plays_rounds k h policy pos le zero r b = let none : 0 * k ≡ 0 = omega arith in rw none
plays_rounds k h policy pos le (suc m) r b =
    let next = next_round k h policy r in
    let i = plays_rounds k h policy pos le m next (begun_next k h r le b policy) in
    let parts = plays_add k h policy k (m * k) (suc m * k) (begins r) (omega arith) in
    parts ∙ ap (plays k h policy (m * k)) (plays_round k h policy r pos le b) ∙ i

rounds_history :
    (k h : ℕ) (policy : Policy) (m : ℕ) (r : Round) →
    (rounds k h policy m r).history ≡ history_after r.history (trace_from k h policy m r)
unfolding rounds trace_from history_after next_round
rounds_history k h policy zero r = refl
rounds_history k h policy (suc m) r = rw history_append (rounds_history k h policy m (next_round k h policy r))

rounds_next : (k h : ℕ) (policy : Policy) (m : ℕ) (r : Round) → (rounds k h policy m r).next ≡ r.next + m * suc (k - h)
unfolding rounds next_round last_new
rounds_next k h policy zero r = omega arith
rounds_next k h policy (suc m) r = omega (arith, rounds_next k h policy m (next_round k h policy r))

pub plays_exactly : PlaysExactly
unfolding adversary opened begins start
plays_exactly k h m policy pos le =
    let news = plays_new k h policy h 1 [] [] 0 [] (omega arith) (λ lt. omega arith) in
    let parts = plays_add k h policy h (m * k) (h + m * k) (record { position = start; history = [] }) refl in
    let rest = plays_rounds k h policy pos le m (opened h) (begun_opened h) in
    let first : 1 + h ≡ suc h = omega arith in
    let new : suc k - h ≡ suc (k - h) = omega arith in
    let next = rounds_next k h policy m (opened h) in
    (parts ∙ ap (plays k h policy (m * k)) (rw first at news) ∙ rest, rw history_append (rounds_history k h policy m (opened h)), rw new (omega arith))
