-- The schedule beside the adversary, part by part: it fetches each new page, and nothing in the second part of a round.
use Rattle.std.proofs.Common.{◌≡◌, ℕ, zero, suc, ◌+◌, ◌<◌, ◌≤◌, true, ◌&&◌, ltb, List, [], ◌∷◌, ◌++◌, length, replicate, refl, ap, arith}
use Rattle.std.proofs.lemmas.Bool.Decides.{nat_tests}
use Rattle.paging.specs.Adversary.{fresh, below, held, served}
use Rattle.paging.specs.Lists.{has, distinct}
use Rattle.paging.specs.Schedules.{only_adds, feasible, schedule_fetches}
use Rattle.paging.proofs.Fresh.{Under}
use Rattle.paging.proofs.Lists.{Within}

pub has_below : (n : ℕ) (pages : List ℕ) (x : ℕ) → has (below n pages) x ≡ (ltb x n && has pages x)
unfolding below has
has_below n [] x = grind (arith, nat_tests)
has_below n (page ∷ pages) x = let i = has_below n pages x in grind (arith, nat_tests)

distinct_below : (n : ℕ) (pages : List ℕ) → distinct pages ≡ true → distinct (below n pages) ≡ true
unfolding below distinct
distinct_below n [] d = refl
distinct_below n (page ∷ pages) d =
    let i = distinct_below n pages in
    let a = has_below n pages page in
    grind (arith, nat_tests)

length_below_le : (n : ℕ) (pages : List ℕ) → length (below n pages) ≤ length pages
unfolding below
length_below_le n [] = omega arith
length_below_le n (page ∷ pages) = let i = length_below_le n pages in grind (arith, nat_tests)

-- a page that is not below n takes a place
length_below : (n x : ℕ) (pages : List ℕ) → n ≤ x → has pages x ≡ true → length (below n pages) < length pages
unfolding below has
length_below n x [] le here = grind (arith, nat_tests)
length_below n x (page ∷ pages) le here =
    let i = length_below n x pages in
    let j = length_below_le n pages in
    grind (arith, nat_tests)

pub within_only_adds : (cache : List ℕ) (page : ℕ) (before : List ℕ) → Within cache (page ∷ before) → only_adds cache page before ≡ true
unfolding only_adds has
within_only_adds [] page before w = refl
within_only_adds (x ∷ xs) page before w =
    let i = within_only_adds xs page before (λ y here. w y (grind (arith, nat_tests))) in
    let a = w x in
    grind (arith, nat_tests)

module _ (list : List ℕ) (n : ℕ) where
  held_first : has (held list n) n ≡ true
  unfolding held has
  held_first = grind (arith, nat_tests)

  held_adds : (before : List ℕ) → ((x : ℕ) → x < n → has list x ≡ true → has before x ≡ true) → only_adds (held list n) n before ≡ true
  unfolding held has
  held_adds before w =
      within_only_adds (held list n) n before (λ x there. let a = has_below n list x in let b = w x in grind (arith, nat_tests))

  pub held_keeps : (x : ℕ) → x < suc n → has list x ≡ true → has (held list n) x ≡ true
  unfolding held has
  held_keeps x lt there = let a = has_below n list x in grind (arith, nat_tests)

  pub held_under : Under (suc n) (held list n)
  unfolding held has
  held_under x there = let a = has_below n list x in grind (arith, nat_tests)

-- the list at the end of a part with new pages: at most h different pages, and the last new one among them
pub record Ending (h last : ℕ) (list : List ℕ) : Type 0 where
  pub apart : distinct list ≡ true
  pub fits : length list ≤ h
  pub here : has list last ≡ true

module _ (h last : ℕ) (list : List ℕ) (ending : Ending h last list) where
  pub held_fits : (n : ℕ) → n ≤ last → length (held list n) ≤ h
  unfolding held
  held_fits n le = let f = ending.fits in omega (arith, length_below n last list le ending.here)

  pub held_apart : (n : ℕ) → distinct (held list n) ≡ true
  unfolding held distinct
  held_apart n = let i = distinct_below n list ending.apart in let a = has_below n list n in grind (arith, nat_tests)

  held_step :
      (n : ℕ) (before trace : List ℕ) (schedule : List (List ℕ)) → n ≤ last → Under n before →
      ((x : ℕ) → x < n → has list x ≡ true → has before x ≡ true) → feasible h (held list n) trace schedule ≡ true →
      (feasible h before (n ∷ trace) (held list n ∷ schedule) ≡ true)
      × (schedule_fetches before (n ∷ trace) (held list n ∷ schedule) ≡ suc (schedule_fetches (held list n) trace schedule))
  unfolding feasible schedule_fetches
  held_step n before trace schedule le u w ok =
      let a = held_fits n le in
      let b = held_apart n in
      let c = held_first list n in
      let d = held_adds list n before w in
      let f = u n in
      grind (arith, nat_tests)

  -- whatever cache comes out, the rest is served from it
  pub served_new :
      (c n : ℕ) (before trace : List ℕ) (schedule : List (List ℕ)) → n + c ≡ last → Under n before →
      ((x : ℕ) → x < n → has list x ≡ true → has before x ≡ true) → feasible h (held list last) trace schedule ≡ true →
      (feasible h before (fresh (suc c) n ++ trace) (served list (fresh (suc c) n) ++ schedule) ≡ true)
      × (schedule_fetches before (fresh (suc c) n ++ trace) (served list (fresh (suc c) n) ++ schedule)
      ≡ suc c + schedule_fetches (held list last) trace schedule)
  unfolding fresh served
  served_new zero n before trace schedule e u w ok =
      let at : n ≡ last = omega arith in
      let s = held_step n before trace schedule (omega arith) u w (rw at ok) in
      (s.0, omega (arith, s.1, ap (λ x. schedule_fetches (held list x) trace schedule) at))
  served_new (suc c) n before trace schedule e u w ok =
      let i = served_new c (suc n) (held list n) trace schedule (omega arith) (held_under list n) (held_keeps list n) ok in
      let s = held_step n before _ _ (omega arith) u w i.0 in
      (s.0, omega (arith, s.1, i.1))

-- requests for pages that stand in the cache, which stays as it is
pub served_held :
    (h c : ℕ) (cache xs trace : List ℕ) (schedule : List (List ℕ)) → length cache ≤ h → distinct cache ≡ true → length xs ≡ c →
    Within xs cache → feasible h cache trace schedule ≡ true →
    (feasible h cache (xs ++ trace) (replicate c cache ++ schedule) ≡ true)
    × (schedule_fetches cache (xs ++ trace) (replicate c cache ++ schedule) ≡ schedule_fetches cache trace schedule)
unfolding feasible schedule_fetches has
served_held h zero cache [] trace schedule fits apart many w ok = (ok, refl)
served_held h (suc c) cache [] trace schedule fits apart many w ok = absurd (omega arith)
served_held h zero cache (x ∷ xs) trace schedule fits apart many w ok = absurd (omega arith)
served_held h (suc c) cache (x ∷ xs) trace schedule fits apart many w ok =
    let i = served_held h c cache xs trace schedule fits apart (omega arith) (λ y there. w y (grind (arith, nat_tests))) ok in
    let a = w x (grind (arith, nat_tests)) in
    let b = within_only_adds cache x cache (λ y there. grind (arith, nat_tests)) in
    grind (arith, nat_tests)
