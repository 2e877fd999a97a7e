-- Laws of new pages, of lists with each page once, and of the first page that a cache lacks.
--     Under n xs     each page of xs is below n
use Rattle.std.proofs.Common.{◌≡◌, ℕ, zero, suc, ◌+◌, ◌<◌, ◌≤◌, Bool, true, false, cond, ◌&&◌, ◌||◌, ltb, leb, ◌⊎◌, List, [], ◌∷◌, ◌++◌, length, take, sym, refl, ◌∙◌, inl, inr, arith}
use Rattle.std.proofs.lemmas.List.{append-nil, append_assoc, length-append}
use Rattle.std.proofs.lemmas.Bool.Decides.{nat_tests}
use Rattle.paging.specs.Adversary.{fresh, first_missing, once_each}
use Rattle.paging.specs.Lists.{has, distinct}
use Rattle.paging.proofs.Appends.{has_append}
use Rattle.paging.proofs.Lists.{Within}
use Rattle.paging.proofs.Weights.{total, total_within}

abbrev pub Under : ℕ → List ℕ → Type 0
Under n xs = (x : ℕ) → has xs x ≡ true → x < n

total_ones : (xs : List ℕ) → total (λ _. 1) xs ≡ length xs
unfolding total
total_ones [] = refl
total_ones (x ∷ xs) = omega (arith, total_ones xs)

pub length_within : (xs ys : List ℕ) → distinct xs ≡ true → Within xs ys → length xs ≤ length ys
length_within xs ys d w = omega (arith, total_within (λ _. 1) xs ys d w, total_ones xs, total_ones ys)

-- new pages

pub has_fresh : (c n x : ℕ) → has (fresh c n) x ≡ (leb n x && ltb x (n + c))
unfolding has fresh
has_fresh zero n x = grind (arith, nat_tests)
has_fresh (suc c) n x = let i = has_fresh c (suc n) x in grind (arith, nat_tests)

pub length_fresh : (c n : ℕ) → length (fresh c n) ≡ c
unfolding fresh
length_fresh zero n = refl
length_fresh (suc c) n = let i = length_fresh c (suc n) in omega arith

pub distinct_fresh : (c n : ℕ) → distinct (fresh c n) ≡ true
unfolding distinct fresh
distinct_fresh zero n = refl
distinct_fresh (suc c) n = let i = distinct_fresh c (suc n) in let a = has_fresh c (suc n) n in grind (arith, nat_tests)

-- pages below n, and then new ones
pub distinct_new : (n c : ℕ) (xs : List ℕ) → distinct xs ≡ true → Under n xs → distinct (xs ++ fresh c n) ≡ true
unfolding has distinct
distinct_new n c [] d u = distinct_fresh c n
distinct_new n c (x ∷ xs) d u =
    let i = distinct_new n c xs in
    let later : Under n xs = λ y here. u y (grind (arith, nat_tests)) in
    let a = has_append xs (fresh c n) x in
    let b = has_fresh c n x in
    let e = u x in
    grind (arith, nat_tests)

-- the first page missing

pub missing_one :
    (pages cache : List ℕ) →
    ((has cache (first_missing pages cache) ≡ false) × (has pages (first_missing pages cache) ≡ true)) ⊎ Within pages cache
unfolding has first_missing
missing_one [] cache = inr (λ x here. grind (arith, nat_tests))
missing_one (page ∷ pages) cache = go (has cache page) refl (missing_one pages cache)
  where
    go :
        (t : Bool) → has cache page ≡ t →
        ((has cache (first_missing pages cache) ≡ false) × (has pages (first_missing pages cache) ≡ true)) ⊎ Within pages cache →
        ((has cache (first_missing (page ∷ pages) cache) ≡ false) × (has (page ∷ pages) (first_missing (page ∷ pages) cache) ≡ true))
        ⊎ Within (page ∷ pages) cache
    go true e (inl m) = inl (grind (arith, nat_tests))
    go true e (inr w) = inr (λ x here. let i = w x in grind (arith, nat_tests))
    go false e rest = inl (grind (arith, nat_tests))

-- pigeonhole: of more different pages than a cache holds one is missing
pub missing_some :
    (pages cache : List ℕ) → distinct pages ≡ true → length cache < length pages →
    (has cache (first_missing pages cache) ≡ false) × (has pages (first_missing pages cache) ≡ true)
missing_some pages cache d more = go (missing_one pages cache)
  where
    go :
        ((has cache (first_missing pages cache) ≡ false) × (has pages (first_missing pages cache) ≡ true)) ⊎ Within pages cache →
        (has cache (first_missing pages cache) ≡ false) × (has pages (first_missing pages cache) ≡ true)
    go (inl m) = m
    go (inr w) = absurd (omega (arith, length_within pages cache d w))

-- whatever is missing, the page told is one of pages, or 0
pub missing_under : (n : ℕ) (pages cache : List ℕ) → 0 < n → Under n pages → first_missing pages cache < n
unfolding has first_missing
missing_under n [] cache pos u = pos
missing_under n (page ∷ pages) cache pos u =
    let i = missing_under n pages cache pos (λ x here. u x (grind (arith, nat_tests))) in
    let a = u page in
    grind (arith, nat_tests)

-- each once

pub has_once_each : (seen pages : List ℕ) (x : ℕ) → has (once_each seen pages) x ≡ (has seen x || has pages x)
unfolding has once_each
has_once_each seen [] x = grind (arith, nat_tests)
has_once_each seen (page ∷ pages) x =
    let i = has_once_each (cond (has seen page) seen (seen ++ page ∷ [])) pages x in
    let a = has_append seen (page ∷ []) x in
    grind (arith, nat_tests)

distinct_push : (xs : List ℕ) (x : ℕ) → distinct xs ≡ true → has xs x ≡ false → distinct (xs ++ x ∷ []) ≡ true
unfolding has distinct
distinct_push [] x d absent = refl
distinct_push (y ∷ xs) x d absent =
    let i = distinct_push xs x in
    let a = has_append xs (x ∷ []) y in
    grind (arith, nat_tests)

pub distinct_once_each : (seen pages : List ℕ) → distinct seen ≡ true → distinct (once_each seen pages) ≡ true
unfolding once_each
distinct_once_each seen [] d = d
distinct_once_each seen (page ∷ pages) d =
    let i = distinct_push seen page in
    distinct_once_each (cond (has seen page) seen (seen ++ page ∷ [])) pages (grind (arith, nat_tests))

pub once_each_append : (seen xs ys : List ℕ) → once_each seen (xs ++ ys) ≡ once_each (once_each seen xs) ys
unfolding once_each
once_each_append seen [] ys = refl
once_each_append seen (x ∷ xs) ys = once_each_append (cond (has seen x) seen (seen ++ x ∷ [])) xs ys

pub length_once_each : (seen pages : List ℕ) → length (once_each seen pages) ≤ length seen + length pages
unfolding once_each
length_once_each seen [] = omega arith
length_once_each seen (page ∷ pages) =
    let i = length_once_each (cond (has seen page) seen (seen ++ page ∷ [])) pages in
    let a = length-append seen (page ∷ []) in
    grind (arith, nat_tests)

-- what was seen stays at the front
once_each_front : (seen pages : List ℕ) → (rest : List ℕ) × (once_each seen pages ≡ seen ++ rest)
unfolding once_each
once_each_front seen [] = ([], sym (append-nil seen))
once_each_front seen (page ∷ pages) = go (has seen page) (λ z. once_each_front z pages)
  where
    go :
        (t : Bool) → ((z : List ℕ) → (rest : List ℕ) × (once_each z pages ≡ z ++ rest)) →
        (rest : List ℕ) × (once_each (cond t seen (seen ++ page ∷ [])) pages ≡ seen ++ rest)
    go true later = later seen
    go false later = let i = later (seen ++ page ∷ []) in (page ∷ i.0, i.1 ∙ append_assoc seen (page ∷ []) i.0)

has_take_front : (h : ℕ) (xs ys : List ℕ) (x : ℕ) → length xs ≤ h → has xs x ≡ true → has (take h (xs ++ ys)) x ≡ true
unfolding has
has_take_front h [] ys x le here = grind (arith, nat_tests)
has_take_front zero (y ∷ xs) ys x le here = grind (arith, nat_tests)
has_take_front (suc h) (y ∷ xs) ys x le here = let i = has_take_front h xs ys x in grind (arith, nat_tests)

pub seen_first :
    (h : ℕ) (seen pages : List ℕ) (x : ℕ) → length seen ≤ h → has seen x ≡ true →
    has (take h (once_each seen pages)) x ≡ true
seen_first h seen pages x le here =
    let f = once_each_front seen pages in
    rw f.1 (has_take_front h seen f.0 x le here)
