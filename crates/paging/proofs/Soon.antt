-- How many pages of a cache are requested again soon: what Belady's rule keeps at its most.
--     soon t coming x     1 where x is among the next t requests of coming, else 0
--     other p f x         f x, and 0 at x = p
use Rattle.std.proofs.Common.{◌≡◌, ℕ, suc, ◌+◌, ◌≤◌, true, false, cond, eqb, ◌⊎◌, List, [], ◌∷◌, length, take, refl, inl, arith}
use Rattle.std.proofs.lemmas.Bool.Decides.{nat_tests}
use Rattle.paging.specs.Lists.{has, without, distinct}
use Rattle.paging.specs.Belady.{next_use, none_later, full_miss, evicts_furthest}
use Rattle.paging.specs.Distance.{found}
use Rattle.paging.specs.Stretches.{missing}
use Rattle.paging.proofs.Distance.{has_take}
use Rattle.paging.proofs.Lists.{Within, has_from_without, without_gone, distinct_without}
use Rattle.paging.proofs.Places.{has_place}
use Rattle.paging.proofs.Stretches.{has_missing}
use Rattle.paging.proofs.Weights.{total, total_le, total_apart, total_within, total_without}

unfoldable pub soon : ℕ → List ℕ → ℕ → ℕ
soon t coming x = cond (has (take t coming) x) 1 0

unfoldable pub other : ℕ → (ℕ → ℕ) → ℕ → ℕ
other p f x = cond (eqb p x) 0 (f x)

pub total_other : (f : ℕ → ℕ) (p : ℕ) (xs : List ℕ) → distinct xs ≡ true → total f xs ≡ cond (has xs p) (f p) 0 + total (other p f) xs
unfolding total other has distinct
total_other f p [] d = refl
total_other f p (x ∷ xs) d = let i = total_other f p xs in grind (arith, nat_tests)

-- one request: the page requested counts, and of the others those that come soon after it
pub soon_request :
    (t p : ℕ) (coming xs : List ℕ) → distinct xs ≡ true →
    total (soon (suc t) (p ∷ coming)) xs ≡ cond (has xs p) 1 0 + total (other p (soon t coming)) xs
unfolding total soon other has distinct
soon_request t p coming [] d = refl
soon_request t p coming (x ∷ xs) d = let i = soon_request t p coming xs in grind (arith, nat_tests)

-- a page fewer than there are
pub soon_others : (t p : ℕ) (coming xs : List ℕ) → distinct xs ≡ true → has xs p ≡ true → suc (total (other p (soon t coming)) xs) ≤ length xs
unfolding soon other
soon_others t p coming xs d there =
    let i = total_apart (other p (soon t coming)) (λ _. 1) p 1 0 xs d (λ x _. grind (arith, nat_tests)) (grind (arith, nat_tests)) in
    let j = total_le (λ _. 1) 1 xs (λ _. omega arith) in
    grind (arith, nat_tests)

-- nothing is among the next 0 requests
pub soon_none : (p : ℕ) (coming xs : List ℕ) → total (other p (soon 0 coming)) xs ≡ 0
unfolding soon other has
soon_none p coming xs = omega (arith, total_le (other p (soon 0 coming)) 0 xs (λ x. grind (arith, nat_tests)))

-- what goes

-- who is among the next t requests, if one is whose next use is no earlier
pub soon_later :
    (t : ℕ) (coming : List ℕ) (x victim : ℕ) → next_use x coming ≤ next_use victim coming → soon t coming victim ≡ 1 → soon t coming x ≡ 1
unfolding soon found
soon_later t coming x victim le late =
    let a = has_take t x coming in
    let b = has_take t victim coming in
    let c = has_place x coming in
    let d = has_place victim coming in
    grind (arith, nat_tests)

-- all are, then
soon_all :
    (t : ℕ) (coming : List ℕ) (victim : ℕ) (xs : List ℕ) → none_later victim xs coming ≡ true → soon t coming victim ≡ 1 →
    total (soon t coming) xs ≡ length xs
unfolding total none_later
soon_all t coming victim [] n late = refl
soon_all t coming victim (x ∷ xs) n late =
    let i = soon_all t coming victim xs in
    let j = soon_later t coming x victim in
    grind (arith, nat_tests)

-- a schedule that evicts only where it must, and then some page with the furthest next use, holds as many pages that come soon as before, or
-- all h that it can hold come soon, the page fetched aside
abbrev pub Holds : ℕ → ℕ → List ℕ → List ℕ → ℕ → List ℕ → Type 0
Holds h p coming before t after =
    (total (other p (soon t coming)) before ≤ total (other p (soon t coming)) after)
    ⊎ ((has before p ≡ false) × (h ≤ suc (total (other p (soon t coming)) after)))

module _ (h p : ℕ) (coming before after : List ℕ) (d : distinct before ≡ true) (t : ℕ) where
  left :
      (gone : List ℕ) → missing after before ≡ gone → evicts_furthest (full_miss h before p) gone before coming ≡ true →
      Holds h p coming before t after
  unfolding has soon other evicts_furthest
  left [] e ok =
      let within : Within before after = λ x there. let i = rw e at (has_missing after before x) in grind (arith, nat_tests) in
      inl (total_within (other p (soon t coming)) before after d within)
  left (victim ∷ []) e ok =
      let missed = λ (x : ℕ). rw e at (has_missing after before x) in
      let gone = without_gone victim before d in
      let was = has_from_without victim before in
      let kept : Within (without victim before) after = λ x there. let i = missed x in let f = was x there in grind (arith, nat_tests) in
      let i = missed victim in
      let less = total_without (other p (soon t coming)) victim before in
      let held = total_within (other p (soon t coming)) (without victim before) after (distinct_without victim before d) kept in
      let late = soon_all t coming victim before in
      let all = total_other (soon t coming) p before d in
      grind (arith, nat_tests)
  left (victim ∷ x ∷ gone) e ok = grind (arith, nat_tests)

  pub holds : evicts_furthest (full_miss h before p) (missing after before) before coming ≡ true → Holds h p coming before t after
  holds = left (missing after before) refl
