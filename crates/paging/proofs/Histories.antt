-- A policy that obeys the rules fetches every request of the adversary: its cache holds only what was requested, and at most k pages.
--     AllFetched policy history     each request of history was fetched by policy
use Rattle.std.proofs.Common.{◌≡◌, ℕ, zero, suc, ◌+◌, ◌<◌, ◌≤◌, true, ◌||◌, List, [], ◌∷◌, ◌++◌, length, refl, ap, arith}
use Rattle.std.proofs.lemmas.Bool.Decides.{nat_tests}
use Rattle.paging.specs.Adversary.{fresh, first_missing, picks}
use Rattle.paging.specs.Lists.{has, distinct}
use Rattle.paging.specs.Policies.{Policy, history_after, policy_fetches, keeps, Obeys}
use Rattle.paging.proofs.Fresh.{Under, missing_some}
use Rattle.paging.proofs.Lists.{Within}
use Rattle.paging.proofs.Schedules.{only_adds_within}

abbrev pub AllFetched : Policy → List ℕ → Type 0
AllFetched policy history = policy_fetches policy history ≡ length history

pub history_append : (history xs ys : List ℕ) → history_after history (xs ++ ys) ≡ history_after (history_after history xs) ys
unfolding history_after
history_append history [] ys = refl
history_append history (x ∷ xs) ys = history_append (x ∷ history) xs ys

pub has_history : (history trace : List ℕ) (x : ℕ) → has (history_after history trace) x ≡ (has history x || has trace x)
unfolding history_after has
has_history history [] x = grind (arith, nat_tests)
has_history history (page ∷ trace) x = let i = has_history (page ∷ history) trace x in grind (arith, nat_tests)

pub length_history : (history trace : List ℕ) → length (history_after history trace) ≡ length history + length trace
unfolding history_after
length_history history [] = omega arith
length_history history (page ∷ trace) = omega (arith, length_history (page ∷ history) trace)

module _ (k : ℕ) (policy : Policy) (o : Obeys k policy) where
  obeys_fits : (history : List ℕ) → length (policy history) ≤ k
  unfolding keeps
  obeys_fits [] = let e = ap length o.starts in omega arith
  obeys_fits (page ∷ history) = let a = o.goes page history in grind (arith, nat_tests)

  obeys_within : (history : List ℕ) → Within (policy history) history
  unfolding keeps has
  obeys_within [] x here = let e = ap (λ (c : List ℕ). has c x) o.starts in grind (arith, nat_tests)
  obeys_within (page ∷ history) x here =
      let i = obeys_within history x in
      let a = o.goes page history in
      let w = only_adds_within (policy (page ∷ history)) page (policy history) (grind (arith, nat_tests)) x here in
      grind (arith, nat_tests)

  pub fresh_fetched :
      (c n : ℕ) (history : List ℕ) → Under n history → AllFetched policy history →
      AllFetched policy (history_after history (fresh c n))
  unfolding history_after fresh policy_fetches has
  fresh_fetched zero n history u all = all
  fresh_fetched (suc c) n history u all =
      let w = obeys_within history n in
      let m = u n in
      fresh_fetched c (suc n) (n ∷ history) (λ x here. let v = u x in grind (arith, nat_tests)) (grind (arith, nat_tests))

  module _ (pages : List ℕ) (apart : distinct pages ≡ true) (more : k < length pages) where
    pub picks_fetched :
        (c : ℕ) (history : List ℕ) → AllFetched policy history →
        AllFetched policy (history_after history (picks policy pages history c))
    unfolding history_after picks policy_fetches
    picks_fetched zero history all = all
    picks_fetched (suc c) history all =
        let page = first_missing pages (policy history) in
        let m = missing_some pages (policy history) apart (omega (arith, obeys_fits history)) in
        picks_fetched c (page ∷ history) (grind (arith, nat_tests))

    pub picks_within : (c : ℕ) (history : List ℕ) → Within (picks policy pages history c) pages
    unfolding picks has
    picks_within zero history x here = grind (arith, nat_tests)
    picks_within (suc c) history x here =
        let page = first_missing pages (policy history) in
        let m = missing_some pages (policy history) apart (omega (arith, obeys_fits history)) in
        let i = picks_within c (page ∷ history) x in
        let same : page ≡ x → has pages page ≡ has pages x = ap (has pages) in
        grind (arith, nat_tests)
