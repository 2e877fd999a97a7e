-- Which page is requested, test by test.
use Rattle.std.proofs.Common.{◌≡◌, ℕ, ◌^◌, ◌<◌, ◌≤◌, Bool, true, false, cond, leb, List, [], ◌++◌, length, Some, None, Ok, Err, Result, sym, refl, ap, ◌∙◌, arith, MatchResult}
use Rattle.std.proofs.lemmas.Bool.{lt-ltb, le-ltb}
use Rattle.std.proofs.lemmas.Bool.Decides.{nat_tests}
use Rattle.paging.specs.Adversary.{first_missing}
use Rattle.paging.specs.Lists.{has}
use Rattle.paging.specs.Stepwise.{Position, complete, next_request}
use Rattle.lru_cache.specs.declared.refusals.Refusal.{Refusal}
use Rattle.lru_cache.specs.declared.refusals.Refusal.TheVariants.{NoPageLeft}
use Rattle.adversary.specs.Rules.{broken, first_odd, lacking, or_else}
use Rattle.adversary.specs.declared.challenge.Challenge.{Challenge}
use Rattle.adversary.specs.Places.{asked_in, shown_in, position_in}
use Rattle.adversary.specs.Steps.{exhausted, told, refusal, refusal_in, Chosen, Aimed}
use Rattle.adversary.proofs.Broken.{told_first}
use Rattle.adversary.proofs.Marked.{missing_same}

module _ (k : ℕ) (p : Position) where
  pub aim_pick : (shown : List ℕ) → k < length p.pages → (exhausted k p ≡ None) × (first_missing p.pages shown ≡ next_request k p shown)
  unfolding exhausted next_request complete
  aim_pick shown all = let t = lt-ltb k (length p.pages) all in (simp t, simp t)

  pub aim_new : (shown : List ℕ) → length p.pages ≤ k → p.next < 2 ^ 32 → (exhausted k p ≡ None) × (p.next ≡ next_request k p shown)
  unfolding exhausted next_request complete
  aim_new shown room left = let t = le-ltb k (length p.pages) room in let u = lt-ltb p.next (2 ^ 32) left in (simp (t, u), simp t)

  pub aim_out : length p.pages ≤ k → 2 ^ 32 ≤ p.next → exhausted k p ≡ Some NoPageLeft
  unfolding exhausted complete
  aim_out room out = let t = le-ltb k (length p.pages) room in let u = le-ltb p.next (2 ^ 32) out in simp (t, u)

  -- only what stands in the cache matters
  pub aim_same : (a b : List ℕ) → ((x : ℕ) → has a x ≡ has b x) → next_request k p a ≡ next_request k p b
  unfolding next_request
  aim_same a b same = rw (missing_same p.pages a b same)

  module _ (asked before shown : List ℕ) where
    pub refusal_fault : (e : Refusal) → told (broken k asked before shown) None ≡ Some e → refusal k p asked before shown ≡ Some e
    unfolding refusal
    refusal_fault e is = told_first (broken k asked before shown) (exhausted k p) e is

    pub refusal_kept : broken k asked before shown ≡ None → refusal k p asked before shown ≡ exhausted k p
    unfolding refusal
    refusal_kept e = simp e

pub broken_few : (k : ℕ) (asked before shown : List ℕ) → broken k asked before shown ≡ None → length shown ≤ k
unfolding broken
broken_few k asked before shown none =
    go (leb (length shown) k) refl
  where
    go : (t : Bool) → leb (length shown) k ≡ t → length shown ≤ k
    go true e = grind (arith, nat_tests)
    go false e =
        let z : Some (length shown) ≡ None = sym (ap (λ (t : Bool). cond t (or_else (first_odd 0 [] (asked ++ before) shown) (lacking asked shown)) (Some (length shown))) e) ∙ none in
        let y : ◌≡◌ {A = ℕ} 0 1 = cc in
        absurd (omega arith)

-- what is chosen by the pages marked is aimed at by what is shown
pub aimed :
    (c : Challenge) (row shown seen : List ℕ) → ((x : ℕ) → has seen x ≡ has shown x) →
    broken c.k (asked_in c) (shown_in c row) shown ≡ None → (r : Result ℕ Refusal) →
    MatchResult r (λ page. Chosen c row seen page) (λ e. exhausted c.k (position_in c row) ≡ Some e) →
    MatchResult r (λ page. Aimed c row shown page) (λ e. refusal_in c row shown ≡ Some e)
aimed c row shown seen same kept (Ok page) chosen =
    let none = refusal_kept c.k (position_in c row) (asked_in c) (shown_in c row) shown kept in
    record {
      none = none ∙ chosen.none;
      page_is = chosen.page_is ∙ aim_same c.k (position_in c row) seen shown same;
      few = broken_few c.k (asked_in c) (shown_in c row) shown kept;
      left = chosen.left;
    }
aimed c row shown seen same kept (Err e) why = refusal_kept c.k (position_in c row) (asked_in c) (shown_in c row) shown kept ∙ why
