-- The last place of the least number.
use Rattle.std.proofs.Common.{◌≡◌, ℕ, zero, suc, ◌+◌, ◌<◌, ◌≤◌, Bool, not, leb, List, [], ◌∷◌, length, get_or, map, fold, unwrap_or, inl, inr, le_refl, refl, ap, arith}
use Rattle.std.proofs.lemmas.Bool.{cases_lt, lt-leb, le-leb}
use Rattle.std.proofs.lemmas.Bool.Decides.{nat_tests}
use Rattle.std.proofs.lemmas.List.{length-map}
use Rattle.std.specs.Cmp.{nat_cmp_is}
use Rattle.std.specs.Ordering.{is_lt, nat_cmp}
use Rattle.std.specs.declared.cmp.Ordering.TheVariants.{Less, Equal, Greater}
use Rattle.itertools.specs.Extremes.{place_step, position_of}
use Rattle.least_requested.specs.Counting.{last_least}

-- of the first i numbers the last of the least stands at `at`
pub record Least (row : List ℕ) (i at : ℕ) : Type 0 where
  pub least : (k : ℕ) → k < i → get_or row at 0 ≤ get_or row k 0
  pub last : (k : ℕ) → at < k → k < i → get_or row at 0 < get_or row k 0

last_cons : (x y : ℕ) (ys : List ℕ) → last_least (y ∷ ys) < length (y ∷ ys)
unfolding last_least
last_cons x y [] = omega arith
last_cons x y (z ∷ ys) = let i = last_cons x z ys in grind (arith, nat_tests)

least_last : (row : List ℕ) (at : ℕ) → at < length row → Least row (length row) at → at ≡ last_least row
unfolding last_least
least_last [] at lt l = absurd (omega arith)
least_last (x ∷ []) at lt l = omega arith
least_last (x ∷ y ∷ ys) zero lt l =
    let w = last_cons x y ys in
    let h = l.last (suc (last_least (y ∷ ys))) (omega arith) (omega arith) in
    grind (arith, nat_tests)
least_last (x ∷ y ∷ ys) (suc at) lt l =
    let i = least_last (y ∷ ys) at (omega arith) (record { least = λ k lt. l.least (suc k) (omega arith); last = λ k gt lt. l.last (suc k) (omega arith) (omega arith) }) in
    let h = l.least 0 (omega arith) in
    grind (arith, nat_tests)

module _ {A : Type 0} (takes : A → A → Bool) (key : A → ℕ) (no_larger : (x best : A) → takes x best ≡ leb (key x) (key best)) (keys : List ℕ) where
  -- best is the last of the least of the first n, and stands at this place
  from :
      (rest : List A) (at : ℕ) (best : A) (n : ℕ) → n + length rest ≡ length keys →
      ((j : ℕ) → j < length rest → get_or (map key rest) j 0 ≡ get_or keys (n + j) 0) → at < n → key best ≡ get_or keys at 0 → Least keys n at →
      (fold (place_step takes) (at, best, n) rest).0 ≡ last_least keys
  from [] at best n size same inside here l = least_last keys at (omega arith) (let e : n ≡ length keys = omega arith in rw e at l)
  from (x ∷ rest) at best n size same inside here l =
      let z : n + 0 ≡ n = omega arith in
      let now : key x ≡ get_or keys n 0 = rw z at (same 0 (omega arith)) in
      let later : (j : ℕ) → j < length rest → get_or (map key rest) j 0 ≡ get_or keys (n + 1 + j) 0 =
      λ j below. (let e : n + suc j ≡ n + 1 + j = omega arith in rw e at (same (suc j) (omega arith))) in
      elim (cases_lt (key best) (key x)) [
        | inl less ↦ rw (fold, no_larger x best, lt-leb (key x) (key best) less) (from rest at best (n + 1) (omega arith) later (omega arith) here
            (record {
              least = λ j below. elim (cases_lt j n) [
                | inl before ↦ l.least j before
                | inr last ↦ let e : j ≡ n = omega arith in rw e (omega arith)
              ];
              last = λ j after below. elim (cases_lt j n) [
                | inl before ↦ l.last j after before
                | inr last ↦ let e : j ≡ n = omega arith in rw e (omega arith)
              ];
            }))
        | inr more ↦ rw (fold, no_larger x best, le-leb (key x) (key best) more) (from rest n x (n + 1) (omega arith) later (omega arith) now
            (record {
              least = λ j below. elim (cases_lt j n) [
                | inl before ↦ let m = l.least j before in omega arith
                | inr last ↦ let e : j ≡ n = omega arith in rw e (le_refl _)
              ];
              last = λ j after below. absurd (omega arith);
            }))
      ]

  pub last_of : (xs : List A) → map key xs ≡ keys → 0 < length keys → unwrap_or (position_of takes xs) 0 ≡ last_least keys
  last_of [] is some = let none : length keys ≡ 0 = rw (← is) refl in absurd (omega arith)
  last_of (x ∷ xs) is some =
      let size : suc (length xs) ≡ length keys = rw (← is) (simp length-map refl) in
      let same : (j : ℕ) → get_or (map key (x ∷ xs)) j 0 ≡ get_or keys j 0 = λ j. ap (λ ks. get_or ks j 0) is in
      from xs 0 x 1 (omega arith) (λ j below. let e : 1 + j ≡ suc j = omega arith in rw e (same (suc j))) (omega arith) (same 0)
      (record { least = λ j below. (let e : j ≡ 0 = omega arith in rw e (le_refl _)); last = λ j after below. absurd (omega arith) })

pub less_is : (a b : ℕ) → not (is_lt (nat_cmp a b)) ≡ leb b a
less_is a b =
    elim (cases_lt a b) [
      | inl less ↦ rw (← nat_cmp_is a b Less less, lt-leb b a less) refl
      | inr le ↦ elim (cases_lt b a) [
        | inl more ↦ rw (← nat_cmp_is a b Greater more, le-leb b a le) refl
        | inr same ↦ let e : a ≡ b = omega arith in rw (← nat_cmp_is a b Equal e, le-leb b a le) refl
      ]
    ]

pub last_within : (row : List ℕ) → 0 < length row → last_least row < length row
last_within [] some = absurd (omega arith)
last_within (x ∷ xs) some = last_cons x x xs
