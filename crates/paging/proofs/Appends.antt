-- Laws of lists of pages that are joined, cut at a page, or made from another list.
use Rattle.std.proofs.Common.{◌≡◌, ℕ, zero, suc, ◌<◌, Bool, true, false, ◌||◌, eqb, ◌≢◌, List, [], ◌∷◌, ◌++◌, length, get_or, sym, refl, ap, ◌∙◌, ⊎_elim, arith}
use Rattle.std.proofs.lemmas.Bool.{true≢false, cases_Bool}
use Rattle.std.proofs.lemmas.Bool.Decides.{nat_tests}
use Rattle.paging.specs.Lists.{has, without, distinct, last_of}

pub has_append : (xs ys : List ℕ) (x : ℕ) → has (xs ++ ys) x ≡ (has xs x || has ys x)
unfolding has
has_append [] ys x = refl
has_append (y ∷ xs) ys x = let i = has_append xs ys x in grind (arith, nat_tests)

-- a list with a page in it, cut there
pub record Cut (xs : List ℕ) (x : ℕ) : Type 0 where
  pub front : List ℕ
  pub back : List ℕ
  pub joins : xs ≡ front ++ x ∷ back

pub cut_at : (xs : List ℕ) (x : ℕ) → has xs x ≡ true → Cut xs x
unfolding has
cut_at [] x there = let z : true ≡ false = sym there in absurd (grind (arith, nat_tests))
cut_at (y ∷ ys) x there = go (eqb y x) refl (cut_at ys x)
  where
    go : (t : Bool) → eqb y x ≡ t → (has ys x ≡ true → Cut ys x) → Cut (y ∷ ys) x
    go true e later = record { front = []; back = ys; joins = ap (λ (z : ℕ). z ∷ ys) (grind (arith, nat_tests)) }
    go false e later =
        let c = later (grind (arith, nat_tests)) in
        record { front = y ∷ c.front; back = c.back; joins = ap (λ (zs : List ℕ). y ∷ zs) c.joins }

-- a list that is not empty, cut before its last page
pub record Ended (xs : List ℕ) : Type 0 where
  pub front : List ℕ
  pub joins : xs ≡ front ++ last_of xs ∷ []

pub ended : (x : ℕ) (xs : List ℕ) → Ended (x ∷ xs)
unfolding last_of
ended x [] = record { front = []; joins = refl }
ended x (y ∷ ys) = let e = ended y ys in record { front = x ∷ e.front; joins = ap (λ (zs : List ℕ). x ∷ zs) e.joins }

module _ (x : ℕ) (ys : List ℕ) where
  pub distinct_cut : (xs : List ℕ) → distinct (xs ++ x ∷ ys) ≡ true → (distinct (xs ++ ys) ≡ true) × (has (xs ++ ys) x ≡ false)
  unfolding has distinct
  distinct_cut [] d = grind (arith, nat_tests)
  distinct_cut (y ∷ xs) d =
      let i = distinct_cut xs in
      let a = has_append xs (x ∷ ys) y in
      let b = has_append xs ys y in
      grind (arith, nat_tests)

  pub without_cut : (xs : List ℕ) → has xs x ≡ false → without x (xs ++ x ∷ ys) ≡ xs ++ ys
  unfolding has without
  without_cut [] absent = grind (arith, nat_tests)
  without_cut (y ∷ xs) absent = let i = without_cut xs in grind (arith, nat_tests)

pub distinct_front : (xs ys : List ℕ) → distinct (xs ++ ys) ≡ true → distinct xs ≡ true
unfolding distinct
distinct_front [] ys d = refl
distinct_front (x ∷ xs) ys d = let i = distinct_front xs ys in let a = has_append xs ys x in grind (arith, nat_tests)

pub distinct_back : (xs ys : List ℕ) → distinct (xs ++ ys) ≡ true → distinct ys ≡ true
unfolding distinct
distinct_back [] ys d = d
distinct_back (x ∷ xs) ys d = let i = distinct_back xs ys in grind (arith, nat_tests)

pub distinct_parts : (xs ys : List ℕ) (z : ℕ) → distinct (xs ++ ys) ≡ true → has xs z ≡ true → has ys z ≡ false
unfolding has distinct
distinct_parts [] ys z d h = let e : true ≡ false = sym h in absurd (grind (arith, nat_tests))
distinct_parts (x ∷ xs) ys z d h =
    let i = distinct_parts xs ys z in
    let a = has_append xs ys x in
    let same : x ≡ z → has ys x ≡ has ys z = ap (has ys) in
    grind (arith, nat_tests)

pub distinct_cons : (x : ℕ) (xs : List ℕ) → distinct (x ∷ xs) ≡ true → (has xs x ≡ false) × (distinct xs ≡ true)
unfolding distinct
distinct_cons x xs d = grind (arith, nat_tests)

-- what stands in a list is not what does not
pub has_apart : (xs : List ℕ) (x y : ℕ) → has xs x ≡ true → has xs y ≡ false → x ≢ y
has_apart xs x y there absent e = true≢false (sym there ∙ ap (has xs) e ∙ absent)

pub has_tail : (x : ℕ) (xs : List ℕ) (y : ℕ) → has (x ∷ xs) y ≡ false → (x ≢ y) × (has xs y ≡ false)
unfolding has
has_tail x xs y absent = (λ e. grind (arith, nat_tests), grind (arith, nat_tests))

pub has_first : (x : ℕ) (xs : List ℕ) → has (x ∷ xs) x ≡ true
unfolding has
has_first x xs = grind (arith, nat_tests)

pub distinct_parts_back : (xs ys : List ℕ) (z : ℕ) → distinct (xs ++ ys) ≡ true → has ys z ≡ true → has xs z ≡ false
distinct_parts_back xs ys z d there = let p = distinct_parts xs ys z d in grind (arith, nat_tests)

pub has_later : (x : ℕ) (xs : List ℕ) (y : ℕ) → has xs y ≡ true → has (x ∷ xs) y ≡ true
unfolding has
has_later x xs y there = grind (arith, nat_tests)

-- the page where a list is cut may as well stand in front
pub has_cut : (xs : List ℕ) (x : ℕ) (ys : List ℕ) (z : ℕ) → has (xs ++ x ∷ ys) z ≡ has (x ∷ (xs ++ ys)) z
unfolding has
has_cut xs x ys z =
    let a = has_append xs (x ∷ ys) z in
    let b = has_append xs ys z in
    grind (arith, nat_tests)

pub last_append : (xs : List ℕ) (x : ℕ) → last_of (xs ++ x ∷ []) ≡ x
unfolding last_of
last_append [] x = refl
last_append (y ∷ []) x = refl
last_append (y ∷ z ∷ xs) x = last_append (z ∷ xs) x

-- what is not in a list, as a test
pub has_none : (xs : List ℕ) (x : ℕ) → (has xs x ≡ true → ⊥) → has xs x ≡ false
has_none xs x not_there = ⊎_elim (λ there. absurd (not_there there)) (λ absent. absent) (cases_Bool (has xs x))

pub has_at : (xs : List ℕ) (i : ℕ) → i < length xs → has xs (get_or xs i 0) ≡ true
unfolding has
has_at [] i lt = absurd (omega arith)
has_at (x ∷ xs) zero lt = grind (arith, nat_tests)
has_at (x ∷ xs) (suc i) lt = let r = has_at xs i in grind (arith, nat_tests)
