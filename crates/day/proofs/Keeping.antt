-- The first requests of a trace, kept as they come. Assumes nothing.
--     kept_more       what a row holds after more requests, as far as it goes
--     kept_small      it holds pages
use Rattle.std.proofs.Common.{◌≡◌, ℕ, zero, suc, ◌+◌, ◌-◌, ◌^◌, ◌<◌, ◌≤◌, min, Bool, true, false, leb, ◌⊎◌, List, [], ◌∷◌, ◌++◌, length, take, drop, None, sym, refl, ap, ◌∙◌, inl, inr, append_assoc, append-nil, arith}
use borrow.Rule.Slice.PartMut.{put_mid, post_of}
use Rattle.std.proofs.lemmas.Bool.Decides.{nat_tests}
use Rattle.std.proofs.lemmas.List.{take_at, take_all, take-append-drop, drop_all, length-append, length-drop, length-take}
use Rattle.lru_cache.specs.Rows.{first_wide}
use Rattle.lru_cache.specs.declared.refusals.Refusal.TheVariants.{BadRequest}
use Rattle.lru_cache.proofs.Faults.{none_bad}

-- of a list the first n: all of it, or n of them
module _ (xs tail : List ℕ) (n : ℕ) where
  front : ((tail ≡ []) × (length xs ≤ n)) ⊎ (n ≡ length xs) → take n (xs ++ tail) ≡ xs
  front (inl (none, more)) = rw (none, append-nil xs) (take_all n xs more)
  front (inr all) = take_at xs tail n (sym all)

module _
    (first requests : List ℕ) (total held q r k : ℕ) (out out' : List ℕ) (bound : length first < 2 ^ 64)
    (held-is : held ≡ min total (length first)) (k_is : k ≡ length first - held) (out-is : out ≡ take k (drop held first))
    (q-is : q ≡ min (length requests) (length out)) (out'-is : out' ≡ take q requests ++ drop q out)
    (r-is : r ≡ min (total + length requests) (2 ^ 64 - 1))
  where
    abbrev now_kept : List ℕ
    now_kept = take held first ++ take q requests

    long_out : length out ≡ k
    long_out = ap length out-is ∙ omega (arith, length-take k (drop held first), length-drop held first)

    long_kept : length now_kept ≡ held + q
    long_kept =
        let a = length-append (take held first) (take q requests) in
        let b = length-take held first in
        let c = length-take q requests in
        let d = long_out in
        omega arith

    as_before : take total first ≡ take held first
    as_before = go (leb total (length first)) refl where
      go : (b : Bool) → leb total (length first) ≡ b → take total first ≡ take held first
      go true is = let e : total ≡ held = grind (arith, nat_tests) in ap (λ (n : ℕ). take n first) e
      go false is =
          let far : length first ≤ total = grind (arith, nat_tests) in
          let all : length first ≤ held = omega arith in
          take_all total first far ∙ sym (take_all held first all)

    row_is : put_mid held k first out' ≡ now_kept ++ (drop q out ++ post_of held k first)
    row_is = rw (out'-is, append_assoc, append_assoc)

    all_is : take total first ++ requests ≡ now_kept ++ drop q requests
    all_is =
        ap (λ (xs : List ℕ). xs ++ requests) as_before ∙ ap (λ (xs : List ℕ). take held first ++ xs) (sym (take-append-drop q requests))
        ∙ sym (append_assoc (take held first) (take q requests) (drop q requests))

    -- there was room for all requests, or the row is full
    room : (b : Bool) → leb (total + length requests) (length first) ≡ b → take r (put_mid held k first out') ≡ take (length first) (take total first ++ requests)
    room true is =
        let l = long_kept in
        let o = long_out in
        let n : length requests ≤ q = grind (arith, nat_tests) in
        let e : r ≡ length now_kept = grind (arith, nat_tests) in
        let f : length now_kept ≤ length first = grind (arith, nat_tests) in
        ap (take r) row_is ∙ front now_kept (drop q out ++ post_of held k first) r (inr e)
        ∙ sym (ap (take (length first)) all_is ∙ front now_kept (drop q requests) (length first) (inl (drop_all q requests n, f)))
    room false is =
        let l = long_kept in
        let o = long_out in
        let n : length out ≤ q = grind (arith, nat_tests) in
        let d = length-drop held first in
        let post : post_of held k first ≡ [] = drop_all k (drop held first) (omega arith) in
        let none : drop q out ++ post_of held k first ≡ [] = rw (drop_all q out n) post in
        let e : length first ≡ length now_kept = grind (arith, nat_tests) in
        let f : length now_kept ≤ r = grind (arith, nat_tests) in
        ap (take r) row_is ∙ front now_kept (drop q out ++ post_of held k first) r (inl (none, f))
        ∙ sym (ap (take (length first)) all_is ∙ front now_kept (drop q requests) (length first) (inr e))

    pub kept_more : take r (put_mid held k first out') ≡ take (length first) (take total first ++ requests)
    kept_more = room (leb (total + length requests) (length first)) refl

-- pages, one list behind the other and cut
wide_append : (xs ys : List ℕ) → first_wide xs ≡ None → first_wide ys ≡ None → first_wide (xs ++ ys) ≡ None
unfolding first_wide
wide_append [] ys none more = more
wide_append (x ∷ xs) ys none more =
    let n = none_bad (leb (2 ^ 32) x) (BadRequest x) (first_wide xs) none in
    simp n.0 (wide_append xs ys n.1 more)

wide_take : (n : ℕ) (xs : List ℕ) → first_wide xs ≡ None → first_wide (take n xs) ≡ None
unfolding first_wide
wide_take zero xs none = refl
wide_take (suc n) [] none = refl
wide_take (suc n) (x ∷ xs) none =
    let m = none_bad (leb (2 ^ 32) x) (BadRequest x) (first_wide xs) none in
    simp m.0 (wide_take n xs m.1)

pub kept_small : (n : ℕ) (xs ys zs : List ℕ) → zs ≡ take n (xs ++ ys) → first_wide xs ≡ None → first_wide ys ≡ None → first_wide zs ≡ None
kept_small n xs ys zs is none more = rw is (wide_take n (xs ++ ys) (wide_append xs ys none more))
