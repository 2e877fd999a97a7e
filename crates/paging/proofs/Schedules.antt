-- Laws of schedules: what a cache holds after a request, and what it weighs.
--     Served h before page after     after is a cache that a schedule with h places may hold after a request for page
use Rattle.std.proofs.Common.{◌≡◌, ℕ, ◌+◌, ◌≤◌, true, cond, List, [], ◌∷◌, length, refl, arith}
use Rattle.std.proofs.lemmas.Bool.Decides.{nat_tests}
use Rattle.paging.specs.Lists.{has, without, distinct}
use Rattle.paging.specs.Schedules.{only_adds, feasible}
use Rattle.paging.proofs.Appends.{has_first, has_later}
use Rattle.paging.proofs.Lists.{Within, has_front, without_absent}
use Rattle.paging.proofs.Weights.{total, total_without, total_within}

pub only_adds_within : (cache : List ℕ) (page : ℕ) (before : List ℕ) → only_adds cache page before ≡ true → Within cache (page ∷ before)
unfolding only_adds has
only_adds_within [] page before a x h = grind (arith, nat_tests)
only_adds_within (y ∷ ys) page before a x h = let i = only_adds_within ys page before in grind (arith, nat_tests)

pub only_adds_from : (cache : List ℕ) (page : ℕ) (before : List ℕ) → Within cache (page ∷ before) → only_adds cache page before ≡ true
unfolding only_adds has
only_adds_from [] page before w = refl
only_adds_from (x ∷ xs) page before w =
    let i = only_adds_from xs page before (λ z there. w z (has_later x xs z there)) in
    let a = w x (has_first x xs) in
    grind (arith, nat_tests)

-- nothing is added to the weight of a cache but the page requested
pub only_adds_total :
    (f : ℕ → ℕ) (cache : List ℕ) (page : ℕ) (before : List ℕ) → distinct cache ≡ true → only_adds cache page before ≡ true →
    total f cache ≤ total f before + cond (has before page) 0 (f page)
unfolding total
only_adds_total f cache page before u a =
    let within : Within cache (page ∷ without page before) = λ x h. cc (only_adds_within cache page before a x h, has_front page before x) in
    let i = total_within f cache (page ∷ without page before) u within in
    let j = total_without f page before in
    let m = without_absent page before in
    grind (arith, nat_tests)

pub record Served (h : ℕ) (before : List ℕ) (page : ℕ) (after : List ℕ) : Type 0 where
  pub fits : length after ≤ h
  pub once : distinct after ≡ true
  pub here : has after page ≡ true
  pub adds : only_adds after page before ≡ true

pub served :
    (h : ℕ) (before : List ℕ) (page : ℕ) (trace after : List ℕ) (schedule : List (List ℕ)) →
    feasible h before (page ∷ trace) (after ∷ schedule) ≡ true → Served h before page after × (feasible h after trace schedule ≡ true)
unfolding feasible
served h before page trace after schedule ok = grind (arith, nat_tests)
