-- What holds where a round begins, whatever the policy does: the schedule's list has h different pages, all requested before.
--     Begun h r     the list of r has h different pages, all below the next new one
use Rattle.std.proofs.Common.{◌≡◌, ℕ, zero, suc, ◌+◌, ◌-◌, ◌<◌, ◌≤◌, true, ◌||◌, List, [], ◌∷◌, ◌++◌, length, refl, arith}
use Rattle.std.proofs.lemmas.List.{length-append, length-take}
use Rattle.std.proofs.lemmas.Bool.Decides.{nat_tests}
use Rattle.paging.specs.Adversary.{
  fresh,
  first_missing,
  once_each,
  Round,
  opened,
  new_pages,
  pages_of,
  picks,
  second_part,
  last_new,
  next_list,
  next_round,
}
use Rattle.paging.specs.Lists.{has, distinct}
use Rattle.paging.specs.Policies.{Policy}
use Rattle.paging.proofs.Appends.{has_append}
use Rattle.paging.proofs.Fresh.{
  Under,
  length_within,
  has_fresh,
  length_fresh,
  distinct_fresh,
  distinct_new,
  missing_under,
  has_once_each,
  distinct_once_each,
}
use Rattle.paging.proofs.Lists.{has_from_take, distinct_take}

pub record Begun (h : ℕ) (r : Round) : Type 0 where
  pub apart : distinct r.list ≡ true
  pub many : length r.list ≡ h
  pub under : Under r.next r.list

pub begun_opened : (h : ℕ) → Begun h (opened h)
unfolding opened
begun_opened h =
    record {
      apart = distinct_fresh h 1;
      many = length_fresh h 1;
      under = λ x here. let a = has_fresh h 1 x in grind (arith, nat_tests);
    }

pub length_picks : (policy : Policy) (pages history : List ℕ) (c : ℕ) → length (picks policy pages history c) ≡ c
unfolding picks
length_picks policy pages history zero = refl
length_picks policy pages history (suc c) =
    omega (arith, length_picks policy pages (first_missing pages (policy history) ∷ history) c)

pub picks_under :
    (n : ℕ) (policy : Policy) (pages history : List ℕ) (c : ℕ) → 0 < n → Under n pages → Under n (picks policy pages history c)
unfolding picks has
picks_under n policy pages history zero pos u x here = grind (arith, nat_tests)
picks_under n policy pages history (suc c) pos u x here =
    let i = picks_under n policy pages (first_missing pages (policy history) ∷ history) c pos u x in
    let a = missing_under n pages (policy history) pos u in
    grind (arith, nat_tests)

-- what the list at the end of round r begins
unfoldable pub all_pages : ℕ → ℕ → Policy → Round → List ℕ
all_pages k h policy r = once_each [] (second_part k h policy r ++ last_new k h r ∷ pages_of k h r)

module _ (k h : ℕ) (r : Round) (le : h ≤ k) (b : Begun h r) where
  pub pages_apart : distinct (pages_of k h r) ≡ true
  unfolding pages_of new_pages
  pages_apart = distinct_new r.next (suc (k - h)) r.list b.apart b.under

  pub pages_many : length (pages_of k h r) ≡ suc k
  unfolding pages_of new_pages
  pages_many = omega (arith, length-append r.list (fresh (suc (k - h)) r.next), length_fresh (suc (k - h)) r.next, b.many)

  pub pages_under : Under (suc (last_new k h r)) (pages_of k h r)
  unfolding pages_of new_pages last_new
  pages_under x here =
      let a = has_append r.list (fresh (suc (k - h)) r.next) x in
      let f = has_fresh (suc (k - h)) r.next x in
      let u = b.under x in
      grind (arith, nat_tests)

  pub second_under : (policy : Policy) → Under (suc (last_new k h r)) (second_part k h policy r)
  unfolding second_part
  second_under policy = picks_under (suc (last_new k h r)) policy (pages_of k h r) _ (h - 1) (omega arith) pages_under

  pub has_all : (policy : Policy) (x : ℕ) → has (all_pages k h policy r) x ≡ (has (second_part k h policy r) x || has (pages_of k h r) x)
  unfolding all_pages pages_of new_pages last_new has
  has_all policy x =
      let second = second_part k h policy r in
      let pages = r.list ++ fresh (suc (k - h)) r.next in
      let o = has_once_each [] (second ++ (r.next + (k - h)) ∷ pages) x in
      let a = has_append second ((r.next + (k - h)) ∷ pages) x in
      let f = has_append r.list (fresh (suc (k - h)) r.next) x in
      let g = has_fresh (suc (k - h)) r.next x in
      grind (arith, nat_tests)

  next_under : (policy : Policy) → Under (suc (last_new k h r)) (next_list k h policy r)
  unfolding next_list all_pages
  next_under policy x here =
      let a : has (all_pages k h policy r) x ≡ true = has_from_take h (all_pages k h policy r) x here in
      let e = has_all policy x in
      let u = pages_under x in
      let v = second_under policy x in
      grind (arith, nat_tests)

  pub begun_next : (policy : Policy) → Begun h (next_round k h policy r)
  unfolding next_round next_list all_pages distinct
  begun_next policy =
      let all = all_pages k h policy r in
      let more = length_within (pages_of k h r) all pages_apart (λ x here. let a = has_all policy x in grind (arith, nat_tests)) in
      record {
        apart = distinct_take h all (distinct_once_each [] (second_part k h policy r ++ last_new k h r ∷ pages_of k h r) refl);
        many = omega (arith, length-take h all, pages_many);
        under = next_under policy;
      }
