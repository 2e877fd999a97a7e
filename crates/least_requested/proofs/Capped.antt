-- Counts that stay at the largest number are those of the rule, for as long as no history is that long; and the cache is one in any case.
use Rattle.std.proofs.Common.{◌≡◌, ℕ, suc, ◌^◌, ◌<◌, ◌≤◌, min, Bool, true, false, cond, ◌&&◌, ◌||◌, ltb, leb, List, [], ◌∷◌, length, refl, ap, ◌∙◌, arith}
use Rattle.std.proofs.lemmas.Bool.Decides.{nat_tests}
use Rattle.paging.specs.Failing.{Entry, pages_in, count_of, others, fewest, spared, entries, least_requested_goes}
use Rattle.paging.specs.Lists.{has}
use Rattle.paging.proofs.Caches.{proper}
use Rattle.paging.proofs.Fewest.{least_goes}
use Rattle.least_requested.specs.Counting.{served, most, DoesFor}
use Rattle.policies.specs.Onward.{onward}

-- no count is above n
unfoldable capped : ℕ → List Entry → Bool
capped n [] = true
capped n (e ∷ es) = leb e.count n && capped n es

capped_others : (n page : ℕ) (es : List Entry) → capped n es ≡ true → capped n (others page es) ≡ true
unfolding capped others
capped_others n page [] h = refl
capped_others n page (e ∷ es) h = let i = capped_others n page es in grind (arith, nat_tests)

capped_spared : (n c : ℕ) (es : List Entry) → capped n es ≡ true → capped n (spared c es) ≡ true
unfolding capped spared
capped_spared n c [] h = refl
capped_spared n c (e ∷ es) h = let i = capped_spared n c es in grind (arith, nat_tests)

capped_more : (n : ℕ) (es : List Entry) → capped n es ≡ true → capped (suc n) es ≡ true
unfolding capped
capped_more n [] h = refl
capped_more n (e ∷ es) h = let i = capped_more n es in grind (arith, nat_tests)

capped_count : (n page : ℕ) (es : List Entry) → capped n es ≡ true → count_of es page ≤ n
unfolding capped count_of
capped_count n page [] h = omega arith
capped_count n page (e ∷ es) h = let i = capped_count n page es in grind (arith, nat_tests)

capped_entries : (k : ℕ) (history : List ℕ) → capped (length history) (entries k history) ≡ true
unfolding capped entries
capped_entries k [] = refl
capped_entries k (page ∷ history) =
    let es = entries k history in
    let n = length history in
    let h = capped_entries k history in
    let c = capped_count n page es h in
    let rest = go es n h (has (pages_in es) page || ltb (length es) k) in
    let r = capped_more n _ (capped_others n page _ rest) in
    grind (arith, nat_tests)
  where
    go : (es : List Entry) (n : ℕ) → capped n es ≡ true → (t : Bool) → capped n (cond t es (spared (fewest es) es)) ≡ true
    go es n h true = h
    go es n h false = capped_spared n (fewest es) es h

same_entries : (k : ℕ) (history : List ℕ) → length history < 2 ^ 64 → onward (served k) [] history ≡ entries k history
unfolding onward served entries
same_entries k [] few = refl
same_entries k (page ∷ history) few =
    let i = same_entries k history (omega arith) in
    let c = capped_count (length history) page (entries k history) (capped_entries k history) in
    let es = entries k history in
    let m : min (suc (count_of (entries k history) page)) most ≡ suc (count_of (entries k history) page) = omega arith in
    ap (λ (es : List Entry). served k es page) i
    ∙ ap (λ (n : ℕ). record { page = page; count = n } ∷ others page (cond (has (pages_in es) page || ltb (length es) k) es (spared (fewest es) es))) m

pub counting_does : (k : ℕ) → 0 < k → DoesFor (2 ^ 64) k (least_requested_goes k) (λ history. pages_in (onward (served k) [] history))
unfolding onward served pages_in least_requested_goes
counting_does k pos =
    record {
      same = λ history few. ap pages_in (same_entries k history few);
      proper = proper k (λ history. pages_in (onward (served k) [] history)) refl (λ page history c. least_goes k (onward (served k) [] history) page (min (suc (count_of (onward (served k) [] history) page)) most) pos c);
    }
