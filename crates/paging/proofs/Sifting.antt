-- Laws for a loop that sifts a page down a row in place. The row is the first n of pages; the loop has come to place k and carries a page; entry
-- is the row as it was, and requests are the page requested and what comes after it.
--     Sifting requests page entry pages n k carry     what is left to do makes of the row what sifting makes of entry
use Rattle.std.proofs.Common.{◌≡◌, ℕ, ◌+◌, ◌<◌, ◌≤◌, true, false, List, [], ◌∷◌, ◌++◌, length, get_or, take, drop, set, sym, refl, add-one, arith}
use lib.Seq.{take-set-lt}
use Rattle.std.proofs.lemmas.List.{append_assoc, length-take, get_or-take, set_split, take_all, take-take, take_at, take_more, take_more_set, drop_all, drop_more, drop-set-lt}
use Rattle.std.proofs.lemmas.Bool.Decides.{nat_tests}
use Rattle.paging.specs.Belady.{next_use}
use Rattle.paging.specs.Lists.{has, place}
use Rattle.paging.specs.Sifted.{sifted}

pub record Sifting (requests : List ℕ) (page : ℕ) (entry pages : List ℕ) (n k carry : ℕ) : Type 0 where
  pub sifts : sifted requests page page entry ≡ take k pages ++ sifted requests page carry (drop k (take n pages))
  pub there : has entry page ≡ has (drop k (take n pages)) page
  pub stands : place page entry ≡ k + place page (drop k (take n pages))

pub sifting_none : (requests : List ℕ) (page : ℕ) (pages : List ℕ) (n : ℕ) → Sifting requests page (take n pages) pages n 0 page
sifting_none requests page pages n = record { sifts = refl; there = refl; stands = omega arith }

-- one place more of a row, and beyond a place that was written
row_more : (pages : List ℕ) (n k : ℕ) → k < n → n ≤ length pages → drop k (take n pages) ≡ get_or pages k 0 ∷ drop (k + 1) (take n pages)
row_more pages n k lt le =
    let l = length-take n pages in
    rw (← get_or-take n pages k 0 lt) (drop_more (take n pages) k 0 (omega arith))

row_set : (pages : List ℕ) (n k x : ℕ) → k < n → drop (k + 1) (take n (set pages k x)) ≡ drop (k + 1) (take n pages)
row_set pages n k x lt = rw (take-set-lt n pages k x lt) (drop-set-lt (k + 1) (take n pages) k x (omega arith))

row_written :
    (pages : List ℕ) (n k x : ℕ) → k < n → n ≤ length pages → take n (set pages k x) ≡ take k pages ++ x ∷ drop (k + 1) (take n pages)
row_written pages n k x lt le =
    let l = length-take n pages in
    let a = take-set-lt n pages k x lt in
    let b = rw (← add-one) at (set_split (take n pages) k x (omega arith)) in
    let c = take-take k n pages (omega arith) in
    cc

push : (xs : List ℕ) (x : ℕ) (ys : List ℕ) → xs ++ x ∷ ys ≡ (xs ++ x ∷ []) ++ ys
push xs x ys = sym (append_assoc xs (x ∷ []) ys)

module _ (requests : List ℕ) (page carry x : ℕ) (rest : List ℕ) where
  stays :
      (x ≡ page → ⊥) → next_use x requests ≤ next_use carry requests →
      sifted requests page carry (x ∷ rest) ≡ x ∷ sifted requests page carry rest
  unfolding sifted
  stays apart near = grind (arith, nat_tests)

  swaps :
      (x ≡ page → ⊥) → next_use carry requests < next_use x requests →
      sifted requests page carry (x ∷ rest) ≡ carry ∷ sifted requests page x rest
  unfolding sifted
  swaps apart far = grind (arith, nat_tests)

  ends : x ≡ page → sifted requests page carry (x ∷ rest) ≡ carry ∷ rest
  unfolding sifted
  ends here = grind (arith, nat_tests)

module _ (requests : List ℕ) (page : ℕ) (entry pages : List ℕ) (n k carry : ℕ) (s : Sifting requests page entry pages n k carry) where
  module _ (lt : k < n) (le : n ≤ length pages) where
    -- the page here is another one, and comes sooner than carry
    pub sifting_stays :
        (get_or pages k 0 ≡ page → ⊥) → next_use (get_or pages k 0) requests ≤ next_use carry requests →
        Sifting requests page entry pages n (k + 1) carry
    unfolding has place
    sifting_stays apart near =
        let m = row_more pages n k lt le in
        let h = rw m at s.there in
        let p = rw m at s.stands in
        let i = rw m at s.sifts in
        let t = take_more pages k 0 (omega arith) in
        let e = stays requests page carry (get_or pages k 0) (drop (k + 1) (take n pages)) apart near in
        let q = push (take k pages) (get_or pages k 0) (sifted requests page carry (drop (k + 1) (take n pages))) in
        record { sifts = cc; there = grind (arith, nat_tests); stands = grind (arith, nat_tests) }

    -- another one, and carry comes sooner: that one stays, and this one is carried on
    pub sifting_swaps :
        (get_or pages k 0 ≡ page → ⊥) → next_use carry requests < next_use (get_or pages k 0) requests →
        Sifting requests page entry (set pages k carry) n (k + 1) (get_or pages k 0)
    unfolding has place
    sifting_swaps apart far =
        let m = row_more pages n k lt le in
        let h = rw m at s.there in
        let p = rw m at s.stands in
        let i = rw m at s.sifts in
        let t = take_more_set pages k carry (omega arith) in
        let r = row_set pages n k carry lt in
        let e = swaps requests page carry (get_or pages k 0) (drop (k + 1) (take n pages)) apart far in
        let q = push (take k pages) carry (sifted requests page (get_or pages k 0) (drop (k + 1) (take n pages))) in
        record { sifts = cc; there = rw r (grind (arith, nat_tests)); stands = rw r (grind (arith, nat_tests)) }

    -- the page requested: carry takes its place
    pub sifting_found :
        (m : ℕ) → n ≤ m → get_or pages k 0 ≡ page →
        (take m (sifted requests page page entry) ≡ take n (set pages k carry)) × (has entry page ≡ true) × (place page entry ≡ k)
    unfolding has place
    sifting_found m fits here =
        let r = row_more pages n k lt le in
        let h = rw r at s.there in
        let p = rw r at s.stands in
        let i = rw r at s.sifts in
        let e = ends requests page carry (get_or pages k 0) (drop (k + 1) (take n pages)) here in
        let w = row_written pages n k carry lt le in
        let l = length-take n (set pages k carry) in
        let t = take_all m (take n (set pages k carry)) (omega arith) in
        (cc, grind (arith, nat_tests), grind (arith, nat_tests))

  module _ (end : k ≡ n) where
    all : (sifted requests page page entry ≡ take n pages ++ carry ∷ []) × (has entry page ≡ false)
    unfolding has sifted
    all =
        let l = length-take n pages in
        let z = drop_all n (take n pages) (omega arith) in
        (rw (end, z) at s.sifts, rw (end, z) at s.there)

    -- the end of the row, with a place left: carry takes it
    pub sifting_pushed :
        (m : ℕ) → n < m → n < length pages →
        (take m (sifted requests page page entry) ≡ take (n + 1) (set pages n carry)) × (has entry page ≡ false)
    sifting_pushed m fits lt =
        let a = all in
        let t = take_more_set pages n carry lt in
        let l = length-take (n + 1) (set pages n carry) in
        let u = take_all m (take (n + 1) (set pages n carry)) (omega arith) in
        (cc, a.1)

    -- and with none left: carry goes
    pub sifting_dropped : n ≤ length pages → (take n (sifted requests page page entry) ≡ take n pages) × (has entry page ≡ false)
    sifting_dropped le =
        let a = all in
        let l = length-take n pages in
        let t = take_at (take n pages) (carry ∷ []) n (omega arith) in
        (cc, a.1)
