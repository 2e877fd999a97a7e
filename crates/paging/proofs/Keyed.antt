-- Laws for a program that keeps beside each page of a row when it is next requested, counted from the beginning of the trace: only the key of the
-- page requested changes.
--     Keyed trace i pages keys n     at the i-th request of trace the first n of keys are the keys of the first n of pages
use Rattle.std.proofs.Common.{◌≡◌, ℕ, zero, suc, ◌+◌, ◌<◌, ◌≤◌, true, List, [], ◌∷◌, length, get_or, take, drop, set, ◌∙◌, arith}
use Rattle.std.proofs.lemmas.List.{length-take, get_or-take, get_or-set_same, get_or-set_other}
use Rattle.std.proofs.lemmas.Bool.{cases_eq}
use Rattle.std.proofs.lemmas.Bool.Decides.{nat_tests}
use Rattle.paging.specs.Belady.{next_use}
use Rattle.paging.specs.Lists.{has, distinct}
use Rattle.paging.proofs.Places.{place_more}

abbrev pub Keyed : List ℕ → ℕ → List ℕ → List ℕ → ℕ → Type 0
Keyed trace i pages keys n = (j : ℕ) → j < n → get_or keys j 0 ≡ i + next_use (get_or pages j 0) (drop i trace)

has_get_d : (xs : List ℕ) (j : ℕ) → j < length xs → has xs (get_or xs j 0) ≡ true
unfolding has
has_get_d [] j lt = grind (arith, nat_tests)
has_get_d (x ∷ xs) zero lt = grind (arith, nat_tests)
has_get_d (x ∷ xs) (suc j) lt = let i = has_get_d xs j in grind (arith, nat_tests)

apart_first : (xs : List ℕ) (j : ℕ) → distinct xs ≡ true → 0 < j → j < length xs → get_or xs 0 0 ≡ get_or xs j 0 → ⊥
unfolding distinct
apart_first [] j d pos lt e = grind (arith, nat_tests)
apart_first (x ∷ xs) zero d pos lt e = grind (arith, nat_tests)
apart_first (x ∷ xs) (suc j) d pos lt e = let i = has_get_d xs j in grind (arith, nat_tests)

module _ (trace : List ℕ) (i : ℕ) (pages keys : List ℕ) (n : ℕ) (keyed : Keyed trace i pages keys n) where
  module _ (k x key : ℕ) (lp : k < length pages) (lk : k < length keys) (is_key : key ≡ i + next_use x (drop i trace)) where
    put : (m : ℕ) → ((j : ℕ) → j < m → (j ≡ k → ⊥) → j < n) → Keyed trace i (set pages k x) (set keys k key) m
    put m old j lt =
        let a = get_or-set_same pages k x 0 lp in
        let b = get_or-set_same keys k key 0 lk in
        let c = get_or-set_other pages k j x 0 in
        let d = get_or-set_other keys k j key 0 in
        let e = old j lt in
        let f = keyed j in
        let g = cases_eq j k in
        grind (arith, nat_tests)

    -- a page put into the row with its key
    pub keyed_put : Keyed trace i (set pages k x) (set keys k key) n
    keyed_put = put n (λ j lt _. lt)

    -- and behind its end
    pub keyed_push : k ≡ n → Keyed trace i (set pages k x) (set keys k key) (n + 1)
    keyed_push e = put (n + 1) (λ j lt apart. grind (arith, nat_tests))

  -- the next request: the page requested, which stands first, gets a new key, and no other
  pub keyed_next :
      (key : ℕ) → i < length trace → 0 < n → n ≤ length pages → n ≤ length keys → distinct (take n pages) ≡ true →
      get_or trace i 0 ≡ get_or pages 0 0 → key ≡ (i + 1) + next_use (get_or pages 0 0) (drop (i + 1) trace) →
      Keyed trace (i + 1) pages (set keys 0 key) n
  keyed_next key lt pos lp lk d here is_key zero _ = get_or-set_same keys 0 key 0 (omega arith) ∙ is_key
  keyed_next key lt pos lp lk d here is_key (suc j) below =
      let f = keyed (suc j) below in
      let l = length-take n pages in
      let a = get_or-take n pages (suc j) 0 below in
      let b = get_or-take n pages 0 0 pos in
      let c = apart_first (take n pages) (suc j) d (omega arith) (omega arith) in
      let m = place_more (get_or pages (suc j) 0) trace i lt (λ e. c (cc)) in
      let g = get_or-set_other keys 0 (suc j) key 0 in
      grind (arith, nat_tests)
