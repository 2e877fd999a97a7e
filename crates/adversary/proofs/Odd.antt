-- The search for a page that stands twice or may not be shown, one page on.
use Rattle.std.proofs.Common.{◌≡◌, ℕ, suc, ◌+◌, ◌<◌, ◌≤◌, true, false, cond, not, ◌||◌, List, [], ◌∷◌, length, get_or, drop, Some, None, sym, refl, ◌∙◌, arith}
use Rattle.std.proofs.lemmas.List.{at_drop_more, at_drop_all}
use Rattle.std.proofs.lemmas.Bool.Decides.{nat_tests}
use Rattle.paging.specs.Lists.{has}
use Rattle.paging.specs.Lru.{lru}
use Rattle.recency.specs.Row as recent
use Rattle.adversary.specs.Rules.{first_odd, Marks}
use Rattle.adversary.proofs.Marked.{has_lru}

-- only what stands in a list matters, and not where
pub odd_same :
    (at : ℕ) (a b allowed allowed' shown : List ℕ) → ((x : ℕ) → has a x ≡ has b x) → ((x : ℕ) → has allowed x ≡ has allowed' x) →
    first_odd at a allowed shown ≡ first_odd at b allowed' shown
unfolding first_odd has
odd_same at a b allowed allowed' [] same may = refl
odd_same at a b allowed allowed' (x ∷ shown) same may =
    let i = odd_same (suc at) (x ∷ a) (x ∷ b) allowed allowed' shown (λ y. let s = same y in grind (arith, nat_tests)) may in
    let s = same x in
    let m = may x in
    grind (arith, nat_tests)

module _ (seen allowed shown : List ℕ) (i : ℕ) where
  abbrev here : ℕ
  here = get_or shown i 0

  odd_here : i < length shown →
      first_odd i seen allowed (drop i shown)
      ≡ cond (has seen here || not (has allowed here)) (Some i) (first_odd (suc i) (here ∷ seen) allowed (drop (i + 1) shown))
  unfolding first_odd
  odd_here lt = at_drop_more (first_odd i seen allowed) shown i 0 lt

  pub odd_strange : i < length shown → has allowed here ≡ false → first_odd i seen allowed (drop i shown) ≡ Some i
  odd_strange lt absent = let h = odd_here lt in grind (arith, nat_tests)

  pub odd_twice : i < length shown → has seen here ≡ true → first_odd i seen allowed (drop i shown) ≡ Some i
  odd_twice lt there = let h = odd_here lt in grind (arith, nat_tests)

  pub odd_more :
      (k : ℕ) → i < length shown → has allowed here ≡ true → has seen here ≡ false → length seen < k →
      first_odd i seen allowed (drop i shown) ≡ first_odd (i + 1) (lru k seen here) allowed (drop (i + 1) shown)
  odd_more k lt may absent room =
      let h = odd_here lt in
      let e : suc i ≡ i + 1 = omega arith in
      let s = odd_same (i + 1) (here ∷ seen) (lru k seen here) allowed allowed (drop (i + 1) shown) (λ x. sym (has_lru k seen here room x)) (λ x. refl) in
      rw e at (simp (absent, may) at h) ∙ s

  pub odd_all : length shown ≤ i → first_odd i seen allowed (drop i shown) ≡ None
  unfolding first_odd
  odd_all end = at_drop_all (first_odd i seen allowed) shown i end

-- what is allowed may be read off an index
pub odd_marked :
    (k asked : ℕ) (index before shown : List ℕ) → Marks k index before →
    first_odd 0 [] (asked ∷ recent.pages index) shown ≡ first_odd 0 [] (asked ∷ before) shown
unfolding has
odd_marked k asked index before shown m =
    odd_same 0 [] [] (asked ∷ recent.pages index) (asked ∷ before) shown (λ x. refl) (λ x. let s = m.same x in grind (arith, nat_tests))
