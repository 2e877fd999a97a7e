-- Belady's rule makes a schedule, and one that evicts the furthest: so it fetches fewest.
use Rattle.std.proofs.Common.{◌≡◌, ℕ, ◌+◌, ◌<◌, ◌≤◌, true, false, cond, ltb, List, [], ◌∷◌, length, get_or, refl, arith}
use Rattle.std.proofs.lemmas.Bool.Decides.{nat_tests}
use Rattle.paging.specs.Belady.{next_use, furthest, belady, belady_fetches, belady_schedule}
use Rattle.paging.specs.Belady.{none_later, full_miss, evicts_furthest, furthest_first}
use Rattle.paging.specs.Claims.{BeladyLeast, BeladyFeasible, AnyFurthest, BeladyFewest}
use Rattle.paging.specs.Lists.{has, without, distinct}
use Rattle.paging.specs.Schedules.{feasible, schedule_fetches}
use Rattle.paging.specs.Stretches.{missing}
use Rattle.paging.proofs.Appends.{has_first, has_later}
use Rattle.paging.proofs.Furthest.{Ahead, furthest_least}
use Rattle.paging.proofs.Lists.{Within, has_without, has_from_without, without_gone, distinct_without, length_without}
use Rattle.paging.proofs.Soon.{soon}
use Rattle.paging.proofs.Weights.{total}
use Rattle.paging.proofs.Schedules.{Served, only_adds_from}

-- the page that goes stands in the cache, and none is requested later

furthest_in : (xs coming : List ℕ) (best : ℕ) → has (best ∷ xs) (furthest xs coming best) ≡ true
unfolding has furthest
furthest_in [] coming best = grind (arith, nat_tests)
furthest_in (x ∷ xs) coming best =
    let i = furthest_in xs coming (cond (ltb (next_use best coming) (next_use x coming)) x best) in
    grind (arith, nat_tests)

furthest_latest :
    (xs coming : List ℕ) (best : ℕ) →
    (next_use best coming ≤ next_use (furthest xs coming best) coming) × (none_later (furthest xs coming best) xs coming ≡ true)
unfolding furthest none_later
furthest_latest [] coming best = grind (arith, nat_tests)
furthest_latest (x ∷ xs) coming best =
    let i = furthest_latest xs coming (cond (ltb (next_use best coming) (next_use x coming)) x best) in
    grind (arith, nat_tests)

-- the pages that went

missing_held : (after before : List ℕ) → Within before after → missing after before ≡ []
unfolding missing
missing_held after [] w = refl
missing_held after (x ∷ xs) w =
    let i = missing_held after xs (λ z there. w z (has_later x xs z there)) in
    let a = w x (has_first x xs) in
    grind (arith, nat_tests)

missing_one :
    (after : List ℕ) (victim : ℕ) (before : List ℕ) → has after victim ≡ false →
    ((x : ℕ) → has before x ≡ true → (victim ≡ x → ⊥) → has after x ≡ true) → distinct before ≡ true → has before victim ≡ true →
    missing after before ≡ victim ∷ []
unfolding has distinct missing
missing_one after victim [] gone kept d there = grind (arith, nat_tests)
missing_one after victim (x ∷ xs) gone kept d there =
    let first : (victim ≡ x → ⊥) → has after x ≡ true = kept x (has_first x xs) in
    let i = missing_one after victim xs gone (λ z h n. kept z (has_later x xs z h) n) in
    let held = missing_held after xs in
    let last : victim ≡ x → missing after xs ≡ [] = λ e. held (λ z h. kept z (has_later x xs z h) (λ f. grind (arith, nat_tests))) in
    grind (arith, nat_tests)

-- one request

unfoldable pub victim : List ℕ → ℕ → List ℕ → ℕ
victim cache page coming = furthest cache coming (get_or cache 0 page)

pub victim_in : (cache : List ℕ) (page : ℕ) (coming : List ℕ) → 0 < length cache → has cache (victim cache page coming) ≡ true
unfolding has victim
victim_in [] page coming pos = grind (arith, nat_tests)
victim_in (x ∷ xs) page coming pos = let i = furthest_in (x ∷ xs) coming x in grind (arith, nat_tests)

module _ (h : ℕ) (cache : List ℕ) (page : ℕ) (coming : List ℕ) (pos : 0 < h) (d : distinct cache ≡ true) where
  full_gone :
      has cache page ≡ false → h ≤ length cache →
      missing (page ∷ without (victim cache page coming) cache) cache ≡ victim cache page coming ∷ []
  unfolding has
  full_gone absent full =
      let v = victim cache page coming in
      let there = victim_in cache page coming (omega arith) in
      let g = without_gone v cache d in
      let kept = has_without v cache in
      missing_one (page ∷ without v cache) v cache (grind (arith, nat_tests)) (λ x t n. let e = kept x n in grind (arith, nat_tests)) d there

  pub belady_served : length cache ≤ h → Served h cache page (belady h cache page coming)
  unfolding has distinct belady victim
  belady_served fits =
      let v = victim cache page coming in
      let there = victim_in cache page coming in
      let l = length_without v cache in
      let u = distinct_without v cache d in
      let f = has_from_without v cache page in
      let a = only_adds_from cache page cache (λ x t. has_later page cache x t) in
      let b = only_adds_from (page ∷ cache) page cache (λ x t. t) in
      let c = only_adds_from (page ∷ without v cache) page cache (λ x t. let e = has_from_without v cache x in grind (arith, nat_tests)) in
      grind (arith, nat_tests)

  belady_rule : evicts_furthest (full_miss h cache page) (missing (belady h cache page coming) cache) cache coming ≡ true
  unfolding evicts_furthest belady victim
  belady_rule =
      let a = missing_held cache cache (λ x t. t) in
      let b = missing_held (page ∷ cache) cache (λ x t. has_later page cache x t) in
      let c = full_gone in
      let f = furthest_latest cache coming (get_or cache 0 page) in
      grind (arith, nat_tests)

-- a whole trace

pub belady_counts : (h : ℕ) (cache trace : List ℕ) → schedule_fetches cache trace (belady_schedule h cache trace) ≡ belady_fetches h cache trace
unfolding schedule_fetches belady_schedule belady_fetches
belady_counts h cache [] = refl
belady_counts h cache (page ∷ trace) = let i = belady_counts h (belady h cache page trace) trace in grind (arith, nat_tests)

pub belady_fits :
    (h : ℕ) (cache trace : List ℕ) → 0 < h → distinct cache ≡ true → length cache ≤ h →
    feasible h cache trace (belady_schedule h cache trace) ≡ true
unfolding feasible belady_schedule
belady_fits h cache [] pos d fits = refl
belady_fits h cache (page ∷ trace) pos d fits =
    let s = belady_served h cache page trace pos d fits in
    let i = belady_fits h (belady h cache page trace) trace in
    grind (arith, nat_tests)

pub belady_first :
    (h : ℕ) (cache trace : List ℕ) → 0 < h → distinct cache ≡ true → length cache ≤ h →
    furthest_first h cache trace (belady_schedule h cache trace) ≡ true
unfolding furthest_first belady_schedule
belady_first h cache [] pos d fits = refl
belady_first h cache (page ∷ trace) pos d fits =
    let s = belady_served h cache page trace pos d fits in
    let r = belady_rule h cache page trace pos d in
    let i = belady_first h (belady h cache page trace) trace in
    grind (arith, nat_tests)

pub belady_le : (h : ℕ) (cache trace : List ℕ) → belady_fetches h cache trace ≤ length trace
unfolding belady_fetches
belady_le h cache [] = omega arith
belady_le h cache (page ∷ trace) = let i = belady_le h (belady h cache page trace) trace in grind (arith, nat_tests)

-- from any two caches
pub belady_least_from :
    (h : ℕ) (mine theirs trace : List ℕ) (another : List (List ℕ)) (credit : ℕ) → 0 < h → distinct mine ≡ true → length mine ≤ h →
    distinct theirs ≡ true → feasible h theirs trace another ≡ true → Ahead trace theirs mine credit →
    belady_fetches h mine trace ≤ schedule_fetches theirs trace another + credit
belady_least_from h mine theirs trace another credit pos u fits v ok ahead =
    let a = belady_fits h mine trace pos u fits in
    let b = belady_first h mine trace pos u fits in
    let c = belady_counts h mine trace in
    omega (arith, furthest_least h mine theirs trace (belady_schedule h mine trace) another credit u v a b ok ahead)

-- caches that hold as many pages that come soon fetch as much
pub belady_same :
    (h : ℕ) (mine theirs trace : List ℕ) → 0 < h → distinct mine ≡ true → length mine ≤ h → distinct theirs ≡ true → length theirs ≤ h →
    ((t : ℕ) → total (soon t trace) mine ≡ total (soon t trace) theirs) → belady_fetches h mine trace ≡ belady_fetches h theirs trace
belady_same h mine theirs trace pos u fits v room same =
    let a = belady_fits h mine trace pos u fits in
    let b = belady_fits h theirs trace pos v room in
    let c = belady_least_from h mine theirs trace (belady_schedule h theirs trace) 0 pos u fits v b (λ t. omega (arith, same t)) in
    let d = belady_least_from h theirs mine trace (belady_schedule h mine trace) 0 pos v room u a (λ t. omega (arith, same t)) in
    omega (arith, belady_counts h mine trace, belady_counts h theirs trace)

-- from an empty cache

pub belady_least : BeladyLeast
unfolding distinct
belady_least h trace schedule pos ok =
    omega (arith, belady_least_from h [] [] trace schedule 0 pos refl (omega arith) refl ok (λ t. omega arith))

pub belady_feasible : BeladyFeasible
unfolding distinct
belady_feasible h trace pos = (belady_fits h [] trace pos refl (omega arith), belady_counts h [] trace)

pub any_furthest : AnyFurthest
unfolding distinct
any_furthest h trace schedule pos ok rule =
    let fits = belady_feasible h trace pos in
    let i = furthest_least h [] [] trace schedule (belady_schedule h [] trace) 0 refl refl ok rule fits.0 (λ t. omega arith) in
    omega (arith, belady_least h trace schedule pos ok)

pub fewest : BeladyFewest
fewest h trace pos =
    let f = belady_feasible h trace pos in
    record { schedule = belady_schedule h [] trace; fits = f.0; fetches = f.1; least = λ other ok. belady_least h trace other pos ok }
