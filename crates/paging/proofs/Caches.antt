-- LRU, first come first gone, and the rules that fail keep a cache of k places: by what each step does to pages that are apart.
--     Cached k cache                a cache of k places, with no page twice
--     Goes k before page after      such a cache after a request for page, that holds it and adds only it to before
use Rattle.std.proofs.Common.{◌≡◌, ℕ, zero, suc, ◌+◌, ◌%◌, ◌<◌, ◌≤◌, Bool, true, false, cond, ◌||◌, ltb, List, [], ◌∷◌, length, take, drop, refl, ap, mod-lt, arith}
use Rattle.std.proofs.lemmas.List.{length-take, length-drop}
use Rattle.std.proofs.lemmas.Bool.Decides.{nat_tests}
use Rattle.paging.specs.Adversary.{fresh}
use Rattle.paging.specs.Failing.{last_requested_goes, direct_mapped, elsewhere}
use Rattle.paging.specs.Lists.{has, without, distinct}
use Rattle.paging.specs.Lru.{lru}
use Rattle.paging.specs.Policies.{Policy, keeps}
use Rattle.paging.specs.Rules.{lru_policy, fifo_policy, Proper}
use Rattle.paging.proofs.Beside.{within_only_adds}
use Rattle.paging.proofs.Fresh.{has_fresh, length_fresh, length_within}
use Rattle.paging.proofs.Lists.{Within, has_from_take, has_from_without, distinct_take, without_gone, distinct_without, length_without}
use Rattle.paging.proofs.Stretches.{lru_within}

pub record Cached (k : ℕ) (cache : List ℕ) : Type 0 where
  pub fits : length cache ≤ k
  pub apart : distinct cache ≡ true

pub record Goes (k : ℕ) (before : List ℕ) (page : ℕ) (after : List ℕ) : Type 0 where
  pub cached : Cached k after
  pub here : has after page ≡ true
  pub adds : Within after (page ∷ before)

module _ (k : ℕ) (policy : Policy) (starts : policy [] ≡ []) where
  module _ (goes : (page : ℕ) (history : List ℕ) → Cached k (policy history) → Goes k (policy history) page (policy (page ∷ history))) where
    always : (history : List ℕ) → Cached k (policy history)
    unfolding distinct
    always [] = rw starts (record { fits = omega arith; apart = refl })
    always (page ∷ history) = (goes page history (always history)).cached

    each : (page : ℕ) (history : List ℕ) → keeps k (policy history) page (policy (page ∷ history)) ≡ true
    unfolding keeps
    each page history =
        let g = goes page history (always history) in
        let a = within_only_adds (policy (page ∷ history)) page (policy history) g.adds in
        grind (arith, nat_tests)

    pub proper : Proper k policy
    proper = record { obeys = record { starts = starts; goes = each }; apart = λ history. (always history).apart }

lru_goes : (k : ℕ) (before : List ℕ) (page : ℕ) → 0 < k → Cached k before → Goes k before page (lru k before page)
unfolding lru distinct has
lru_goes zero before page pos c = absurd (omega arith)
lru_goes (suc k) before page pos c =
    let d = c.apart in
    let g = without_gone page before d in
    let w = distinct_without page before d in
    record {
      cached = record { fits = rw length-take (omega arith); apart = distinct_take (suc k) (page ∷ without page before) (grind (arith, nat_tests)) };
      here = grind (arith, nat_tests);
      adds = lru_within (suc k) before page;
    }

pub lru_proper : (k : ℕ) → 0 < k → Proper k (lru_policy k)
unfolding lru_policy
lru_proper k pos = proper k (lru_policy k) refl (λ page history c. lru_goes k (lru_policy k history) page pos c)

fifo_goes :
    (k : ℕ) (before : List ℕ) (page : ℕ) → 0 < k → Cached k before →
    Goes k before page (cond (has before page) before (take k (page ∷ before)))
unfolding has distinct
fifo_goes zero before page pos c = absurd (omega arith)
fifo_goes (suc k) before page pos c = go (has before page) refl
  where
    go : (t : Bool) → has before page ≡ t → Goes (suc k) before page (cond t before (take (suc k) (page ∷ before)))
    go true e = record { cached = c; here = e; adds = λ x there. grind (arith, nat_tests) }
    go false e =
        let d = c.apart in
        record {
          cached = record { fits = rw length-take (omega arith); apart = distinct_take (suc k) (page ∷ before) (grind (arith, nat_tests)) };
          here = grind (arith, nat_tests);
          adds = λ x there. has_from_take (suc k) (page ∷ before) x there;
        }

pub fifo_proper : (k : ℕ) → 0 < k → Proper k (fifo_policy k)
unfolding fifo_policy
fifo_proper k pos = proper k (fifo_policy k) refl (λ page history c. fifo_goes k (fifo_policy k history) page pos c)

-- the page requested last goes

drop_one : (cache : List ℕ) → distinct cache ≡ true → (distinct (drop 1 cache) ≡ true) × Within (drop 1 cache) cache
unfolding distinct has
drop_one [] d = (refl, λ x there. there)
drop_one (y ∷ ys) d = (grind (arith, nat_tests), λ x there. grind (arith, nat_tests))

-- the page requested in front of what stays
front_goes :
    (k : ℕ) (before : List ℕ) (page : ℕ) (stay : List ℕ) → distinct stay ≡ true → Within stay before →
    length stay + cond (has stay page) 0 1 ≤ k → Goes k before page (page ∷ without page stay)
unfolding has distinct
front_goes k before page stay apart within fits =
    let l = length_without page stay in
    let w = without_gone page stay apart in
    let v = distinct_without page stay apart in
    record {
      cached = record { fits = grind (arith, nat_tests); apart = grind (arith, nat_tests) };
      here = grind (arith, nat_tests);
      adds = λ x there. let a = has_from_without page stay x in let b = within x in grind (arith, nat_tests);
    }

last_goes :
    (k : ℕ) (before : List ℕ) (page : ℕ) → 0 < k → Cached k before →
    Goes k before page (page ∷ without page (cond (has before page || ltb (length before) k) before (drop 1 before)))
last_goes k before page pos c = go (has before page || ltb (length before) k) refl
  where
    go :
        (t : Bool) → (has before page || ltb (length before) k) ≡ t →
        Goes k before page (page ∷ without page (cond t before (drop 1 before)))
    go true e = let f = c.fits in front_goes k before page before c.apart (λ x there. there) (grind (arith, nat_tests))
    go false e =
        let f = c.fits in
        let o = drop_one before c.apart in
        let l = length-drop 1 before in
        front_goes k before page (drop 1 before) o.0 o.1 (grind (arith, nat_tests))

pub last_requested_proper : (k : ℕ) → 0 < k → Proper k (last_requested_goes k)
unfolding last_requested_goes
last_requested_proper k pos = proper k (last_requested_goes k) refl (λ page history c. last_goes k (last_requested_goes k history) page pos c)

-- a page stands at its number modulo k
--     places k cache     these numbers

unfoldable places : ℕ → List ℕ → List ℕ
places k [] = []
places k (x ∷ xs) = x % k ∷ places k xs

length_places : (k : ℕ) (cache : List ℕ) → length (places k cache) ≡ length cache
unfolding places
length_places k [] = refl
length_places k (x ∷ xs) = omega (arith, length_places k xs)

places_within : (k : ℕ) (cache : List ℕ) → 0 < k → Within (places k cache) (fresh k 0)
unfolding places has
places_within k [] pos x there = grind (arith, nat_tests)
places_within k (y ∷ ys) pos x there =
    let i = places_within k ys pos x in
    let f = has_fresh k 0 x in
    let m : y % k < k = mod-lt y pos in
    grind (arith, nat_tests)

has_places : (k : ℕ) (cache : List ℕ) (x : ℕ) → has cache x ≡ true → has (places k cache) (x % k) ≡ true
unfolding places has
has_places k [] x there = there
has_places k (y ∷ ys) x there =
    let i = has_places k ys x in
    let same : y ≡ x → y % k ≡ x % k = ap (λ z. z % k) in
    grind (arith, nat_tests)

distinct_from_places : (k : ℕ) (cache : List ℕ) → distinct (places k cache) ≡ true → distinct cache ≡ true
unfolding places distinct
distinct_from_places k [] d = refl
distinct_from_places k (y ∷ ys) d = let i = distinct_from_places k ys in let h = has_places k ys y in grind (arith, nat_tests)

module _ (k page : ℕ) where
  elsewhere_within : (cache : List ℕ) → Within (elsewhere k page cache) cache
  unfolding elsewhere has
  elsewhere_within [] x there = there
  elsewhere_within (y ∷ ys) x there = let i = elsewhere_within ys x in grind (arith, nat_tests)

  elsewhere_places : (cache : List ℕ) → Within (places k (elsewhere k page cache)) (places k cache)
  unfolding elsewhere places has
  elsewhere_places [] x there = there
  elsewhere_places (y ∷ ys) x there = let i = elsewhere_places ys x in grind (arith, nat_tests)

  elsewhere_lacks : (cache : List ℕ) → has (places k (elsewhere k page cache)) (page % k) ≡ false
  unfolding elsewhere places has
  elsewhere_lacks [] = refl
  elsewhere_lacks (y ∷ ys) = let i = elsewhere_lacks ys in grind (arith, nat_tests)

  elsewhere_apart : (cache : List ℕ) → distinct (places k cache) ≡ true → distinct (places k (elsewhere k page cache)) ≡ true
  unfolding elsewhere places distinct
  elsewhere_apart [] d = refl
  elsewhere_apart (y ∷ ys) d =
      let i = elsewhere_apart ys in
      let w = elsewhere_places ys (y % k) in
      grind (arith, nat_tests)

direct_apart : (k : ℕ) (history : List ℕ) → distinct (places k (direct_mapped k history)) ≡ true
unfolding direct_mapped places distinct
direct_apart k [] = refl
direct_apart k (page ∷ history) =
    let i = elsewhere_apart k page (direct_mapped k history) (direct_apart k history) in
    let l = elsewhere_lacks k page (direct_mapped k history) in
    grind (arith, nat_tests)

direct_cached : (k : ℕ) (history : List ℕ) → 0 < k → Cached k (direct_mapped k history)
direct_cached k history pos =
    let cache = direct_mapped k history in
    let apart = direct_apart k history in
    let few = length_within (places k cache) (fresh k 0) apart (places_within k cache pos) in
    record { fits = omega (arith, length_places k cache, length_fresh k 0); apart = distinct_from_places k cache apart }

direct_goes : (k page : ℕ) (history : List ℕ) → 0 < k → Goes k (direct_mapped k history) page (direct_mapped k (page ∷ history))
unfolding direct_mapped has
direct_goes k page history pos =
    record {
      cached = direct_cached k (page ∷ history) pos;
      here = grind (arith, nat_tests);
      adds = λ x there. let w = elsewhere_within k page (direct_mapped k history) x in grind (arith, nat_tests);
    }

pub direct_mapped_proper : (k : ℕ) → 0 < k → Proper k (direct_mapped k)
unfolding direct_mapped
direct_mapped_proper k pos = proper k (direct_mapped k) refl (λ page history _. direct_goes k page history pos)
