-- One request to LRU, by what it finds: the page, a free place, or a full cache.
use Rattle.std.proofs.Common.{◌≡◌, ℕ, ◌<◌, ◌≤◌, true, false, List, [], ◌∷◌, ◌++◌, length, arith}
use Rattle.std.proofs.lemmas.List.{take_all, take_at, length-append}
use Rattle.std.proofs.lemmas.Bool.Decides.{nat_tests}
use Rattle.paging.specs.Lists.{has, without, distinct}
use Rattle.paging.specs.Lru.{lru}
use Rattle.paging.proofs.Appends.{has_append, distinct_cut, without_cut}
use Rattle.paging.proofs.Lists.{without_absent, without_gone, distinct_without, distinct_take}

pub lru_there :
    (k x : ℕ) (xs ys : List ℕ) → distinct (xs ++ x ∷ ys) ≡ true → length (xs ++ x ∷ ys) ≤ k → lru k (xs ++ x ∷ ys) x ≡ x ∷ (xs ++ ys)
unfolding lru
lru_there k x xs ys once few =
    let a = (distinct_cut x ys xs once).1 in
    let h = has_append xs ys x in
    let w = without_cut x ys xs (grind (arith, nat_tests)) in
    let l = length-append xs (x ∷ ys) in
    let m = length-append xs ys in
    rw w (take_all k (x ∷ (xs ++ ys)) (omega arith))

pub lru_free : (k x : ℕ) (cache : List ℕ) → has cache x ≡ false → length cache < k → lru k cache x ≡ x ∷ cache
unfolding lru
lru_free k x cache absent room = rw (without_absent x cache absent) (take_all k (x ∷ cache) (omega arith))

pub lru_full :
    (k x : ℕ) (front : List ℕ) (last : ℕ) → has (front ++ last ∷ []) x ≡ false → length (front ++ last ∷ []) ≡ k →
    lru k (front ++ last ∷ []) x ≡ x ∷ front
unfolding lru
lru_full k x front last absent full =
    let l = length-append front (last ∷ []) in
    rw (without_absent x (front ++ last ∷ []) absent) (take_at (x ∷ front) (last ∷ []) k (omega arith))

pub lru_distinct : (k x : ℕ) (cache : List ℕ) → distinct cache ≡ true → distinct (lru k cache x) ≡ true
unfolding lru distinct
lru_distinct k x cache once =
    let g = without_gone x cache once in
    let d = distinct_without x cache once in
    distinct_take k (x ∷ without x cache) (grind (arith, nat_tests))
