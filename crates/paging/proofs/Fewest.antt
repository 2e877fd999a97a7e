-- The least requested goes: that this keeps a cache of k places.
use Rattle.std.proofs.Common.{◌≡◌, ℕ, suc, ◌+◌, ◌<◌, ◌≤◌, min, Bool, true, false, cond, ◌||◌, ltb, List, [], ◌∷◌, length, refl, ap, arith}
use Rattle.std.proofs.lemmas.Bool.Decides.{nat_tests}
use Rattle.paging.specs.Failing.{Entry, pages_in, count_of, others, fewest, counted, spared, entries, least_requested_goes}
use Rattle.paging.specs.Lists.{has, distinct}
use Rattle.paging.specs.Rules.{Proper, RulesProper}
use Rattle.paging.proofs.Caches.{Cached, Goes, proper, lru_proper, fifo_proper, last_requested_proper, direct_mapped_proper}
use Rattle.paging.proofs.Lists.{Within}

pub length_pages : (es : List Entry) → length (pages_in es) ≡ length es
unfolding pages_in
length_pages [] = refl
length_pages (e ∷ es) = omega (arith, length_pages es)

-- the page requested taken out

module _ (page : ℕ) where
  others_lacks : (es : List Entry) → has (pages_in (others page es)) page ≡ false
  unfolding others pages_in has
  others_lacks [] = refl
  others_lacks (e ∷ es) = let i = others_lacks es in grind (arith, nat_tests)

  others_within : (es : List Entry) → Within (pages_in (others page es)) (pages_in es)
  unfolding others pages_in has
  others_within [] x there = there
  others_within (e ∷ es) x there = let i = others_within es x in grind (arith, nat_tests)

  others_apart : (es : List Entry) → distinct (pages_in es) ≡ true → distinct (pages_in (others page es)) ≡ true
  unfolding others pages_in distinct
  others_apart [] d = refl
  others_apart (e ∷ es) d = let i = others_apart es in let w = others_within es e.page in grind (arith, nat_tests)

  others_length : (es : List Entry) → length (others page es) + cond (has (pages_in es) page) 1 0 ≤ length es
  unfolding others pages_in has
  others_length [] = omega arith
  others_length (e ∷ es) = let i = others_length es in grind (arith, nat_tests)

-- the one that goes taken out

pub spared_within : (c : ℕ) (es : List Entry) → Within (pages_in (spared c es)) (pages_in es)
unfolding spared pages_in has
spared_within c [] x there = there
spared_within c (e ∷ es) x there = let i = spared_within c es x in grind (arith, nat_tests)

spared_apart : (c : ℕ) (es : List Entry) → distinct (pages_in es) ≡ true → distinct (pages_in (spared c es)) ≡ true
unfolding spared pages_in distinct
spared_apart c [] d = refl
spared_apart c (e ∷ es) d = let i = spared_apart c es in let w = spared_within c es e.page in grind (arith, nat_tests)

spared_length : (c : ℕ) (es : List Entry) → counted c es ≡ true → suc (length (spared c es)) ≡ length es
unfolding spared counted
spared_length c [] here = grind (arith, nat_tests)
spared_length c (e ∷ es) here = let i = spared_length c es in grind (arith, nat_tests)

pub fewest_counted : (e : Entry) (es : List Entry) → counted (fewest (e ∷ es)) (e ∷ es) ≡ true
unfolding fewest counted
fewest_counted e [] = grind (arith, nat_tests)
fewest_counted e (f ∷ es) =
    let i = fewest_counted f es in
    let least = min e.count (fewest (f ∷ es)) in
    let same : least ≡ fewest (f ∷ es) → counted least (f ∷ es) ≡ counted (fewest (f ∷ es)) (f ∷ es) = ap (λ c. counted c (f ∷ es)) in
    grind (arith, nat_tests)

spared_room : (es : List Entry) (k : ℕ) → 0 < k → length es ≤ k → length (spared (fewest es) es) < k
unfolding spared
spared_room [] k pos fits = pos
spared_room (e ∷ es) k pos fits = omega (arith, spared_length (fewest (e ∷ es)) (e ∷ es) (fewest_counted e es))

-- the page requested in front of what stays
front_goes :
    (k : ℕ) (before : List Entry) (page count : ℕ) (stay : List Entry) → distinct (pages_in stay) ≡ true →
    Within (pages_in stay) (pages_in before) → length stay + cond (has (pages_in stay) page) 0 1 ≤ k →
    Goes k (pages_in before) page (pages_in (record { page = page; count = count } ∷ others page stay))
unfolding pages_in has distinct
front_goes k before page count stay apart within fits =
    let l = others_length page stay in
    let m = length_pages (others page stay) in
    let w = others_lacks page stay in
    let v = others_apart page stay apart in
    record {
      cached = record { fits = grind (arith, nat_tests); apart = grind (arith, nat_tests) };
      here = grind (arith, nat_tests);
      adds = λ x there. let a = others_within page stay x in let b = within x in grind (arith, nat_tests);
    }

-- the least requested goes, whatever the count that the page requested gets
pub least_goes :
    (k : ℕ) (es : List Entry) (page count : ℕ) → 0 < k → Cached k (pages_in es) →
    Goes k (pages_in es) page
    (pages_in
    (record { page = page; count = count } ∷ others page (cond (has (pages_in es) page || ltb (length es) k) es (spared (fewest es) es))))
least_goes k es page count pos c = go (has (pages_in es) page || ltb (length es) k) refl
  where
    go :
        (t : Bool) → (has (pages_in es) page || ltb (length es) k) ≡ t →
        Goes k (pages_in es) page (pages_in (record { page = page; count = count } ∷ others page (cond t es (spared (fewest es) es))))
    go true e =
        let f = c.fits in
        let l = length_pages es in
        front_goes k es page count es c.apart (λ x there. there) (grind (arith, nat_tests))
    go false e =
        let f = c.fits in
        let l = length_pages es in
        let r = spared_room es k pos (omega arith) in
        front_goes k es page count (spared (fewest es) es) (spared_apart (fewest es) es c.apart) (spared_within (fewest es) es) (grind (arith, nat_tests))

least_requested_proper : (k : ℕ) → 0 < k → Proper k (least_requested_goes k)
unfolding least_requested_goes entries pages_in
least_requested_proper k pos =
    proper k (least_requested_goes k) refl
    (λ page history c. least_goes k (entries k history) page (suc (count_of (entries k history) page)) pos c)

pub rules_proper : RulesProper
rules_proper k pos =
    record {
      lru_proper = lru_proper k pos;
      fifo_proper = fifo_proper k pos;
      least_requested_proper = least_requested_proper k pos;
      last_requested_proper = last_requested_proper k pos;
      direct_mapped_proper = direct_mapped_proper k pos;
    }
