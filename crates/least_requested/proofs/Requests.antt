-- A request where the least requested goes, on the first n places of two rows: the page is there, there is room for it, or there is none.
use Rattle.std.proofs.Common.{◌≡◌, ℕ, zero, suc, ◌+◌, ◌<◌, ◌≤◌, min, max, Bool, true, false, ltb, List, [], ◌∷◌, ◌++◌, length, get_or, take, sym, refl, ap, ◌∙◌, arith}
use Rattle.std.specs.List.{remove}
use Rattle.std.proofs.lemmas.Bool.Decides.{nat_tests}
use Rattle.std.proofs.lemmas.List.{length-take}
use Rattle.paging.specs.Failing.{Entry, pages_in, count_of, others, fewest, spared}
use Rattle.paging.specs.Lists.{has, distinct, place}
use Rattle.paging.proofs.Appends.{has_none}
use Rattle.paging.proofs.Entries.{others_absent, count_absent}
use Rattle.paging.proofs.Caches.{Cached}
use Rattle.paging.proofs.Fewest.{spared_within, least_goes}
use Rattle.policies.specs.Onward.{onward}
use Rattle.policies.proofs.Rules.{goes_on}
use Rattle.least_requested.specs.Counting.{entry, paired, most, served, last_least}
use Rattle.least_requested.proofs.Pairs.{level_front, pages_paired, length_paired, put_both, others_there, count_there, spared_least}

-- what a request leaves, by the two tests

served_here : (k : ℕ) (es : List Entry) (page : ℕ) → has (pages_in es) page ≡ true → served k es page ≡ record { page = page; count = min (suc (count_of es page)) most } ∷ others page es
unfolding served
served_here k es page here = rw here

served_free : (k : ℕ) (es : List Entry) (page : ℕ) → has (pages_in es) page ≡ false → length es < k → served k es page ≡ record { page = page; count = 1 } ∷ es
unfolding served
served_free k es page absent room =
    let t : ltb (length es) k ≡ true = grind (arith, nat_tests) in
    rw (absent, t, count_absent page es absent, others_absent page es absent)

served_full :
    (k : ℕ) (es : List Entry) (page : ℕ) → has (pages_in es) page ≡ false → k ≤ length es →
    served k es page ≡ record { page = page; count = 1 } ∷ spared (fewest es) es
unfolding served
served_full k es page absent full =
    let t : ltb (length es) k ≡ false = grind (arith, nat_tests) in
    let w = spared_within (fewest es) es page in
    let away : has (pages_in (spared (fewest es) es)) page ≡ false = has_none (pages_in (spared (fewest es) es)) page (λ h. let z = w h in let q : ◌≡◌ {A = Bool} true false = sym z ∙ absent in let r : ◌≡◌ {A = ℕ} 0 1 = cc in omega arith) in
    rw (absent, t, count_absent page es absent, others_absent page (spared (fewest es) es) away)

-- nothing is taken out behind the last entry
removed_past : (es : List Entry) (at : ℕ) → length es ≤ at → remove es at ≡ es
removed_past [] zero le = refl
removed_past [] (suc at) le = refl
removed_past (e ∷ es) zero le = absurd (omega arith)
removed_past (e ∷ es) (suc at) le = ap (λ (fs : List Entry). e ∷ fs) (removed_past es at (omega arith))

module _ (pages counts : List ℕ) (k page : ℕ) (level : length counts ≡ length pages) where
  abbrev held : List Entry
  held = paired pages counts

  has_same : has (pages_in held) page ≡ has pages page
  has_same = rw (pages_paired pages counts level) refl

  pub again :
      (at : ℕ) → has pages page ≡ true → at ≡ place page pages → at < length pages → distinct pages ≡ true →
      entry page (min (get_or counts at 0 + 1) most) ∷ remove held at ≡ served k held page
  again at there is lt once =
      let o = others_there pages counts page level once (omega arith) in
      let c = count_there pages counts page level (omega arith) in
      let s = served_here k held page (has_same ∙ there) in
      let e : min (get_or counts at 0 + 1) most ≡ min (suc (count_of held page)) most = let f : get_or counts at 0 ≡ count_of held page = rw is (sym c) in omega arith in
      rw (e, is) (rw (← o) (sym s))

  pub room : (at : ℕ) → has pages page ≡ false → at ≡ length pages → length pages < k → entry page 1 ∷ remove held at ≡ served k held page
  room at absent is free =
      let m = length_paired pages counts level in
      rw (removed_past held at (omega arith)) (sym (served_free k held page (has_same ∙ absent) (omega arith)))

  pub full :
      (at : ℕ) → has pages page ≡ false → at ≡ last_least counts → k ≤ length pages → 0 < length pages → entry page 1 ∷ remove held at ≡ served k held page
  full at absent is all some =
      let m = length_paired pages counts level in
      let l = spared_least pages counts level some in
      rw is (rw (← l) (sym (served_full k held page (has_same ∙ absent) (omega arith))))

  -- no page stands twice afterwards either
  served_once : 0 < k → length pages ≤ k → distinct pages ≡ true → distinct (pages_in (served k held page)) ≡ true
  unfolding served
  served_once some few once =
      let c : Cached k (pages_in held) = rw (pages_paired pages counts level) (record { fits = few; apart = once }) in
      (least_goes k held page (min (suc (count_of held page)) most) some c).cached.apart

-- the page and its count come to the front of the first n of two rows, in the place of others or behind them
module _
    (k n at m page count : ℕ) (pages counts pages' counts' : List ℕ) (long : length pages ≡ k) (level : length counts ≡ length pages) (few : n ≤ k) (some : 0 < k)
    (up_to : at ≤ n) (within : at < k) (sized : m ≡ max n (at + 1)) (p : pages' ≡ page ∷ remove pages at) (q : counts' ≡ count ∷ remove counts at)
    (after : entry page count ∷ remove (paired (take n pages) (take n counts)) at ≡ served k (paired (take n pages) (take n counts)) page) where
  put : paired (take m pages') (take m counts') ≡ served k (paired (take n pages) (take n counts)) page
  put = rw (p, q) (put_both pages counts n at m page count level up_to (omega arith) sized ∙ after)

  pub goes :
      (further : List ℕ) →
      pages_in (onward (served k) (paired (take m pages') (take m counts')) further) ≡ pages_in (onward (served k) (paired (take n pages) (take n counts)) (further ++ page ∷ []))
  goes further = ap pages_in (goes_on (served k) (paired (take n pages) (take n counts)) (paired (take m pages') (take m counts')) page put further)

  pub goes_once : length counts' ≡ length pages' → distinct (take n pages) ≡ true → distinct (take m pages') ≡ true
  goes_once level' once =
      let l = length-take n pages in
      let e = pages_paired (take m pages') (take m counts') (level_front m pages' counts' level') in
      ap distinct (sym e ∙ ap pages_in put) ∙ served_once (take n pages) (take n counts) k page (level_front n pages counts level) some (omega arith) once
