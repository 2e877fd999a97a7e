-- The place that `position_min_by` finds, where the item with the larger key comes before: the first of the largest.
use Rattle.std.proofs.Common.{◌≡◌, ℕ, suc, ◌+◌, ◌<◌, ◌≤◌, Bool, false, ltb, List, [], ◌∷◌, length, get_or, map, fold, unwrap_or, inl, inr, le_refl, refl, ap, arith}
use Rattle.std.proofs.lemmas.Bool.{cases_lt, lt-ltb, le-ltb}
use Rattle.std.proofs.lemmas.List.{length-map}
use Rattle.std.specs.Cmp.{nat_cmp_is}
use Rattle.std.specs.Ordering.{is_lt, nat_cmp}
use Rattle.std.specs.declared.cmp.Ordering.TheVariants.{Less, Equal, Greater}
use Rattle.itertools.specs.Extremes.{place_step, position_of, wins}
use Rattle.belady.specs.Kept.{Latest}

module _ {A : Type 0} (lt : A → A → Bool) (key : A → ℕ) (larger : (a b : A) → lt a b ≡ ltb (key b) (key a)) (keys : List ℕ) where
  -- best is the first of the largest of the first n, and stands at this place
  from :
      (rest : List A) (at : ℕ) (best : A) (n : ℕ) → n + length rest ≡ length keys →
      ((j : ℕ) → j < length rest → get_or (map key rest) j 0 ≡ get_or keys (n + j) 0) → at < n → key best ≡ get_or keys at 0 →
      ((j : ℕ) → j < n → get_or keys j 0 ≤ key best) → ((j : ℕ) → j < at → get_or keys j 0 < key best) →
      Latest keys (length keys) (fold (place_step (wins false lt)) (at, best, n) rest).0
  from [] at best n size same inside here most first =
      record {
        within = omega arith;
        most = λ j below. let m = most j (omega arith) in omega arith;
        first = λ j before. let f = first j before in omega arith;
      }
  from (x ∷ rest) at best n size same inside here most first =
      let z : n + 0 ≡ n = omega arith in
      let now : key x ≡ get_or keys n 0 = rw z at (same 0 (omega arith)) in
      let later : (j : ℕ) → j < length rest → get_or (map key rest) j 0 ≡ get_or keys (n + 1 + j) 0 =
      λ j below. (let e : n + suc j ≡ n + 1 + j = omega arith in rw e at (same (suc j) (omega arith))) in
      elim (cases_lt (key best) (key x)) [
        | inl less ↦ rw (fold, larger x best, lt-ltb (key best) (key x) less) (from rest n x (n + 1) (omega arith) later (omega arith) now
            (λ j below. elim (cases_lt j n) [
              | inl before ↦ let m = most j before in omega arith
              | inr last ↦ let e : j ≡ n = omega arith in rw (e, now) (le_refl _)
            ])
            (λ j before. let m = most j before in omega arith))
        | inr more ↦ rw (fold, larger x best, le-ltb (key best) (key x) more) (from rest at best (n + 1) (omega arith) later (omega arith) here
            (λ j below. elim (cases_lt j n) [
              | inl before ↦ most j before
              | inr last ↦ let e : j ≡ n = omega arith in rw (e, ← now) more
            ])
            first)
      ]

  pub first_of : (xs : List A) → map key xs ≡ keys → 0 < length keys → Latest keys (length keys) (unwrap_or (position_of (wins false lt) xs) 0)
  first_of [] is some = let none : length keys ≡ 0 = rw (← is) refl in absurd (omega arith)
  first_of (x ∷ xs) is some =
      let size : suc (length xs) ≡ length keys = rw (← is) (simp length-map refl) in
      let same : (j : ℕ) → get_or (map key (x ∷ xs)) j 0 ≡ get_or keys j 0 = λ j. ap (λ ks. get_or ks j 0) is in
      from xs 0 x 1 (omega arith) (λ j below. let e : 1 + j ≡ suc j = omega arith in rw e (same (suc j))) (omega arith) (same 0)
      (λ j below. let e : j ≡ 0 = omega arith in rw (e, same 0) (le_refl _)) (λ j before. absurd (omega arith))

pub less_is : (a b : ℕ) → is_lt (nat_cmp a b) ≡ ltb a b
less_is a b =
    elim (cases_lt a b) [
      | inl less ↦ rw (← nat_cmp_is a b Less less, lt-ltb a b less) refl
      | inr le ↦ elim (cases_lt b a) [
        | inl more ↦ rw (← nat_cmp_is a b Greater more, le-ltb a b le) refl
        | inr same ↦ let e : a ≡ b = omega arith in rw (← nat_cmp_is a b Equal e, le-ltb a b le) refl
      ]
    ]
