-- Two rows side by side as entries: what stands at a place, the entry of a page taken out, and the least requested taken out.
use Rattle.std.proofs.Common.{◌≡◌, ℕ, zero, suc, ◌+◌, ◌<◌, ◌≤◌, min, max, Bool, true, false, cond, eqb, ltb, List, [], ◌∷◌, length, get_or, take, refl, ap, ◌∙◌, arith}
use Rattle.std.specs.List.{remove}
use Rattle.std.proofs.lemmas.List.{length-take}
use Rattle.std.proofs.lemmas.Bool.Decides.{nat_tests}
use Rattle.paging.specs.Failing.{Entry, pages_in, count_of, others, fewest, counted, spared}
use Rattle.paging.specs.Lists.{has, distinct, place}
use Rattle.paging.proofs.Entries.{others_absent}
use Rattle.paging.proofs.Fewest.{fewest_counted}
use Rattle.least_requested.specs.Counting.{entry, paired, last_least}

pub level_front : (n : ℕ) (pages counts : List ℕ) → length counts ≡ length pages → length (take n counts) ≡ length (take n pages)
level_front n pages counts e =
    let l = length-take n pages in
    let r = length-take n counts in
    omega arith

pub pages_paired : (pages counts : List ℕ) → length counts ≡ length pages → pages_in (paired pages counts) ≡ pages
unfolding paired pages_in
pages_paired [] counts e = refl
pages_paired (x ∷ xs) [] e = absurd (omega arith)
pages_paired (x ∷ xs) (c ∷ cs) e = ap (λ (ys : List ℕ). x ∷ ys) (pages_paired xs cs (omega arith))

pub length_paired : (pages counts : List ℕ) → length counts ≡ length pages → length (paired pages counts) ≡ length pages
unfolding paired
length_paired [] counts e = refl
length_paired (x ∷ xs) [] e = absurd (omega arith)
length_paired (x ∷ xs) (c ∷ cs) e = ap suc (length_paired xs cs (omega arith))

paired_removed : (pages counts : List ℕ) (at : ℕ) → length counts ≡ length pages → paired (remove pages at) (remove counts at) ≡ remove (paired pages counts) at
unfolding paired
paired_removed [] counts zero e = refl
paired_removed [] counts (suc at) e = refl
paired_removed (x ∷ xs) [] at e = absurd (omega arith)
paired_removed (x ∷ xs) (c ∷ cs) zero e = refl
paired_removed (x ∷ xs) (c ∷ cs) (suc at) e = ap (λ (es : List Entry). entry x c ∷ es) (paired_removed xs cs at (omega arith))

-- the first numbers of a row after one came to the front, in the place of one of its first n or of the next: all n of them, or one more
front : (row : List ℕ) (n at m x : ℕ) → at ≤ n → at < length row → m ≡ max n (at + 1) → take m (x ∷ remove row at) ≡ x ∷ remove (take n row) at
front [] n at m x le lt is = absurd (omega arith)
front (y ∷ ys) n at zero x le lt is = absurd (omega arith)
front (y ∷ ys) zero zero (suc m) x le lt is = let none : m ≡ 0 = omega arith in rw none refl
front (y ∷ ys) zero (suc at) (suc m) x le lt is = absurd (omega arith)
front (y ∷ ys) (suc n) zero (suc m) x le lt is = let same : m ≡ n = omega arith in rw same refl
front (y ∷ ys) (suc n) (suc at) (suc m) x le lt is = ap (λ (zs : List ℕ). x ∷ zs) (front ys n at m y (omega arith) (omega arith) (omega arith))

pub put_both :
    (pages counts : List ℕ) (n at m page count : ℕ) → length counts ≡ length pages → at ≤ n → at < length pages → m ≡ max n (at + 1) →
    paired (take m (page ∷ remove pages at)) (take m (count ∷ remove counts at)) ≡ entry page count ∷ remove (paired (take n pages) (take n counts)) at
unfolding paired
put_both pages counts n at m page count e le lt is =
    let a = front pages n at m page le lt is in
    let b = front counts n at m count le (omega arith) is in
    rw (a, b) (ap (λ (es : List Entry). entry page count ∷ es) (paired_removed (take n pages) (take n counts) at (level_front n pages counts e)))

-- the entry of a page that is there
pub others_there :
    (pages counts : List ℕ) (page : ℕ) → length counts ≡ length pages → distinct pages ≡ true → place page pages < length pages →
    others page (paired pages counts) ≡ remove (paired pages counts) (place page pages)
unfolding paired others place distinct
others_there [] counts page e once lt = absurd (omega arith)
others_there (x ∷ xs) [] page e once lt = absurd (omega arith)
others_there (x ∷ xs) (c ∷ cs) page e once lt = go (others_there xs cs page (omega arith)) (eqb x page) refl
  where
    go :
        (distinct xs ≡ true → place page xs < length xs → others page (paired xs cs) ≡ remove (paired xs cs) (place page xs)) → (t : Bool) → eqb x page ≡ t →
        cond t (others page (paired xs cs)) (record { page = x; count = c } ∷ others page (paired xs cs))
        ≡ remove (paired (x ∷ xs) (c ∷ cs)) (cond t 0 (suc (place page xs)))
    go rest true same =
        let p = pages_paired xs cs (omega arith) in
        let here : x ≡ page = grind (arith, nat_tests) in
        let away : has xs x ≡ false = grind (arith, nat_tests) in
        others_absent page (paired xs cs) (rw (p, ← here) away)
    go rest false other =
        let f : place page (x ∷ xs) ≡ suc (place page xs) = grind (arith, nat_tests) in
        ap (λ (es : List Entry). record { page = x; count = c } ∷ es) (rest (grind (arith, nat_tests)) (omega arith))

pub count_there :
    (pages counts : List ℕ) (page : ℕ) → length counts ≡ length pages → place page pages < length pages →
    count_of (paired pages counts) page ≡ get_or counts (place page pages) 0
unfolding paired count_of place
count_there [] counts page e lt = absurd (omega arith)
count_there (x ∷ xs) [] page e lt = absurd (omega arith)
count_there (x ∷ xs) (c ∷ cs) page e lt = go (count_there xs cs page (omega arith)) (eqb x page) refl
  where
    go :
        (place page xs < length xs → count_of (paired xs cs) page ≡ get_or cs (place page xs) 0) → (t : Bool) → eqb x page ≡ t →
        cond t c (count_of (paired xs cs) page) ≡ get_or (c ∷ cs) (cond t 0 (suc (place page xs))) 0
    go rest true same = refl
    go rest false other = let f : place page (x ∷ xs) ≡ suc (place page xs) = grind (arith, nat_tests) in rest (omega arith)

-- a count below the least is no entry's
counted_below : (c : ℕ) (e : Entry) (es : List Entry) → c < fewest (e ∷ es) → counted c (e ∷ es) ≡ false
unfolding fewest counted
counted_below c e [] lt = grind (arith, nat_tests)
counted_below c e (f ∷ es) lt = let i = counted_below c f es in grind (arith, nat_tests)

-- the least requested is the last of the least counts
fewest_is : (pages counts : List ℕ) → length counts ≡ length pages → 0 < length pages → fewest (paired pages counts) ≡ get_or counts (last_least counts) 0
unfolding paired fewest last_least
fewest_is [] counts e some = absurd (omega arith)
fewest_is (x ∷ xs) [] e some = absurd (omega arith)
fewest_is (x ∷ []) (c ∷ []) e some = refl
fewest_is (x ∷ []) (c ∷ d ∷ cs) e some = absurd (omega arith)
fewest_is (x ∷ y ∷ xs) (c ∷ []) e some = absurd (omega arith)
fewest_is (x ∷ y ∷ xs) (c ∷ d ∷ cs) e some =
    let i = fewest_is (y ∷ xs) (d ∷ cs) (omega arith) (omega arith) in
    go (ltb c (get_or (d ∷ cs) (last_least (d ∷ cs)) 0)) refl i
  where
    go :
        (t : Bool) → ltb c (get_or (d ∷ cs) (last_least (d ∷ cs)) 0) ≡ t → fewest (paired (y ∷ xs) (d ∷ cs)) ≡ get_or (d ∷ cs) (last_least (d ∷ cs)) 0 →
        min c (fewest (paired (y ∷ xs) (d ∷ cs))) ≡ get_or (c ∷ d ∷ cs) (cond t 0 (suc (last_least (d ∷ cs)))) 0
    go true less i = grind (arith, nat_tests)
    go false more i = grind (arith, nat_tests)

-- the first entry stays where a later one has the count, and goes where none has
spared_stays : (c : ℕ) (e : Entry) (es : List Entry) → counted c es ≡ true → spared c (e ∷ es) ≡ e ∷ spared c es
unfolding spared
spared_stays c e es later = grind (arith, nat_tests)

spared_goes : (e : Entry) (es : List Entry) → counted e.count es ≡ false → spared e.count (e ∷ es) ≡ es
unfolding spared
spared_goes e es none = grind (arith, nat_tests)

module _ (e f : Entry) (es : List Entry) where
  least_first : e.count < fewest (f ∷ es) → spared (fewest (e ∷ f ∷ es)) (e ∷ f ∷ es) ≡ f ∷ es
  unfolding fewest
  least_first lt =
      let m : fewest (e ∷ f ∷ es) ≡ e.count = omega arith in
      ap (λ (c : ℕ). spared c (e ∷ f ∷ es)) m ∙ spared_goes e (f ∷ es) (counted_below e.count f es lt)

  least_later : fewest (f ∷ es) ≤ e.count → spared (fewest (e ∷ f ∷ es)) (e ∷ f ∷ es) ≡ e ∷ spared (fewest (f ∷ es)) (f ∷ es)
  unfolding fewest
  least_later le =
      let m : fewest (e ∷ f ∷ es) ≡ fewest (f ∷ es) = omega arith in
      ap (λ (c : ℕ). spared c (e ∷ f ∷ es)) m ∙ spared_stays (fewest (f ∷ es)) e (f ∷ es) (fewest_counted f es)

least_alone : (e : Entry) → spared (fewest (e ∷ [])) (e ∷ []) ≡ []
unfolding fewest spared counted
least_alone e = grind (arith, nat_tests)

pub spared_least :
    (pages counts : List ℕ) → length counts ≡ length pages → 0 < length pages →
    spared (fewest (paired pages counts)) (paired pages counts) ≡ remove (paired pages counts) (last_least counts)
unfolding paired last_least
spared_least [] counts e some = absurd (omega arith)
spared_least (x ∷ xs) [] e some = absurd (omega arith)
spared_least (x ∷ []) (c ∷ []) e some = least_alone (record { page = x; count = c })
spared_least (x ∷ []) (c ∷ d ∷ cs) e some = absurd (omega arith)
spared_least (x ∷ y ∷ xs) (c ∷ []) e some = absurd (omega arith)
spared_least (x ∷ y ∷ xs) (c ∷ d ∷ cs) e some =
    go (spared_least (y ∷ xs) (d ∷ cs) (omega arith) (omega arith)) (fewest_is (y ∷ xs) (d ∷ cs) (omega arith) (omega arith))
    (ltb c (get_or (d ∷ cs) (last_least (d ∷ cs)) 0)) refl
  where
    first : Entry
    first = record { page = x; count = c }

    second : Entry
    second = record { page = y; count = d }

    go :
        spared (fewest (second ∷ paired xs cs)) (second ∷ paired xs cs) ≡ remove (second ∷ paired xs cs) (last_least (d ∷ cs)) →
        fewest (second ∷ paired xs cs) ≡ get_or (d ∷ cs) (last_least (d ∷ cs)) 0 →
        (t : Bool) → ltb c (get_or (d ∷ cs) (last_least (d ∷ cs)) 0) ≡ t →
        spared (fewest (first ∷ second ∷ paired xs cs)) (first ∷ second ∷ paired xs cs)
        ≡ remove (first ∷ second ∷ paired xs cs) (cond t 0 (suc (last_least (d ∷ cs))))
    go rest is true less = least_first first second (paired xs cs) (grind (arith, nat_tests))
    go rest is false more = least_later first second (paired xs cs) (grind (arith, nat_tests)) ∙ ap (λ (es : List Entry). first ∷ es) rest
