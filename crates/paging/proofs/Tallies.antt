-- One pass over a trace for every capacity at once. Beside a row of pages, of which a cache of c places holds the first c, there are counters: at
-- each place how many requests found their page there. What F counts from an empty cache, and the counters below c, are the requests so far and
-- what F counts from here on.
--     Tallied F hits i trace row     so much has been counted after the first i requests of trace, for every capacity up to the length of hits
--     Steps F m row page rest next   a request for page takes row to next, and costs a fetch where page does not stand among the first c of row
use Rattle.std.proofs.Common.{◌≡◌, ℕ, zero, suc, ◌+◌, ◌<◌, ◌≤◌, true, cond, ltb, List, [], ◌∷◌, length, get_or, take, drop, set, replicate, sum, refl, arith}
use Rattle.std.proofs.lemmas.List.{length-set, length-drop, length-replicate, take_all, at_drop_more, at_drop_all}
use Rattle.std.proofs.lemmas.List.Sums.{sum_by-cons, get_or-le-sum_by}
use Rattle.std.proofs.lemmas.Bool.Decides.{nat_tests}
use Rattle.paging.specs.Distance.{found}
use Rattle.paging.specs.Lists.{has, place}
use Rattle.paging.proofs.Lists.{take_none}

abbrev pub Tallied : (ℕ → List ℕ → List ℕ → ℕ) → List ℕ → ℕ → List ℕ → List ℕ → Type 0
Tallied F hits i trace row = (c : ℕ) → 0 < c → c ≤ length hits → F c [] trace + sum (take c hits) ≡ i + F c (take c row) (drop i trace)

abbrev pub Steps : (ℕ → List ℕ → List ℕ → ℕ) → ℕ → List ℕ → ℕ → List ℕ → List ℕ → Type 0
Steps F m row page rest next =
    (c : ℕ) → 0 < c → c ≤ m → F c (take c row) (page ∷ rest) ≡ cond (found c page row) 0 1 + F c (take c next) rest

-- a counter that goes up by one counts for every capacity beyond its place
sum_counted :
    (c d : ℕ) (hits : List ℕ) → d < length hits →
    sum (take c (set hits d (get_or hits d 0 + 1))) ≡ sum (take c hits) + cond (ltb d c) 1 0
sum_counted zero d hits lt = grind (arith, nat_tests)
sum_counted (suc c) d [] lt = grind (arith, nat_tests)
sum_counted (suc c) zero (x ∷ xs) lt =
    let a = sum_by-cons (λ (n : ℕ). n) (x + 1) (take c xs) in
    let b = sum_by-cons (λ (n : ℕ). n) x (take c xs) in
    grind (arith, nat_tests)
sum_counted (suc c) (suc d) (x ∷ xs) lt =
    let i = sum_counted c d xs in
    let a = sum_by-cons (λ (n : ℕ). n) x (take c (set xs d (get_or xs d 0 + 1))) in
    let b = sum_by-cons (λ (n : ℕ). n) x (take c xs) in
    grind (arith, nat_tests)

sum_none : (c m : ℕ) → c ≤ m → sum (take c (replicate m 0)) ≡ 0
sum_none zero m le = refl
sum_none (suc c) zero le = refl
sum_none (suc c) (suc m) le = let i = sum_none c m in let a = sum_by-cons (λ (n : ℕ). n) 0 (take c (replicate m 0)) in grind (arith, nat_tests)

module _ (F : ℕ → List ℕ → List ℕ → ℕ) where
  pub tallied_none : (m : ℕ) (trace : List ℕ) → Tallied F (replicate m 0) 0 trace []
  tallied_none m trace c pos le =
      let n = length-replicate {A = ℕ} m 0 in
      let z = sum_none c m in
      rw (take_none c) (grind (arith, nat_tests))

  module _ (hits : List ℕ) (i : ℕ) (trace row : List ℕ) (so_far : Tallied F hits i trace row) where
    pub tallied_all : (c : ℕ) → 0 < c → c ≤ length hits → length trace ≤ i → F c (take c row) [] ≡ 0 → F c [] trace + sum (take c hits) ≡ i
    tallied_all c pos le end none = let s = so_far c pos le in let e = at_drop_all (F c (take c row)) trace i end in omega arith

    -- no counter outgrows the trace
    pub counter_le :
        (d : ℕ) → d < length hits → i ≤ length trace → ((c : ℕ) (cache rest : List ℕ) → F c cache rest ≤ length rest) →
        get_or hits d 0 ≤ length trace
    counter_le d lt le few =
        let m = length hits in
        let s = so_far m (omega arith) (omega arith) in
        let a : sum (take m hits) ≡ sum hits = rw (take_all m hits (omega arith)) refl in
        let b = get_or-le-sum_by (λ (n : ℕ). n) hits d 0 lt in
        let f = few m (take m row) (drop i trace) in
        let r = length-drop i trace in
        omega arith

    module _
        (next : List ℕ) (page : ℕ) (lt : i < length trace) (here : get_or trace i 0 ≡ page)
        (steps : Steps F (length hits) row page (drop (i + 1) trace) next)
      where
        step :
            (c : ℕ) → 0 < c → c ≤ length hits →
            F c [] trace + sum (take c hits) ≡ i + (cond (found c page row) 0 1 + F c (take c next) (drop (i + 1) trace))
        step c pos le =
            let e = at_drop_more (F c (take c row)) trace i 0 lt in
            omega (arith, so_far c pos le, steps c pos le, rw here at e)

        -- the page was found at a place that has a counter
        pub tallied_found :
            (d : ℕ) → d ≡ place page row → has row page ≡ true → d < length hits → Tallied F (set hits d (get_or hits d 0 + 1)) (i + 1) trace next
        unfolding found
        tallied_found d at there fits c pos le =
            let n = length-set hits d (get_or hits d 0 + 1) in
            let s = step c pos in
            let t = sum_counted c d hits fits in
            grind (arith, nat_tests)

        -- it was not there, or beyond the counters
        pub tallied_absent : (has row page ≡ true → length hits ≤ place page row) → Tallied F hits (i + 1) trace next
        unfolding found
        tallied_absent absent c pos le = let s = step c pos le in grind (arith, nat_tests)
