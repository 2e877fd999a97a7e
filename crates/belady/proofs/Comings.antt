-- A page that comes into a cache kept by Belady's rule: in front, at the cost of the one place that it takes.
use Rattle.std.proofs.Common.{◌≡◌, ℕ, zero, suc, ◌+◌, ◌<◌, ◌≤◌, min, true, false, List, ◌∷◌, length, get_or, take, drop, sym, ap, ◌∙◌, inl, inr, add-one, arith}
use Rattle.std.proofs.lemmas.List.{length-take-le, get_or-take, take_at}
use Rattle.std.proofs.lemmas.Bool.{cases_lt, lt-ltb, le-ltb}
use Rattle.paging.specs.Belady.{next_use, belady}
use Rattle.paging.specs.Lists.{has, without, distinct}
use Rattle.paging.proofs.Keyed.{Keyed}
use Rattle.curve.proofs.Stacks.{lifted, taken_out}
use Rattle.belady.specs.Ahead.{next_at}
use Rattle.belady.specs.Kept.{Kept, Place}
use Rattle.belady.proofs.Keeping.{Stepped, stepped}
use Rattle.belady.proofs.Rekeyed.{key_stays, keyed_lifted}
use Rattle.belady.proofs.Standing.{place_before, place_at, place_absent}
use Rattle.belady.proofs.Victims.{furthest_at}

-- in front of n others
brought : (page : ℕ) (pages : List ℕ) (n end : ℕ) → n < length pages → end ≡ n → take (n + 1) (lifted page end pages) ≡ page ∷ take n pages
brought page pages n end lt last =
    let len = length-take-le n pages (omega arith) in
    rw (last, add-one) (ap (λ xs. page ∷ xs) (take_at (take n pages) _ n len))

-- over one of them
replaced :
    (page : ℕ) (pages : List ℕ) (n end : ℕ) → n ≤ length pages → end < n → distinct (take n pages) ≡ true →
    take n (lifted page end pages) ≡ page ∷ without (get_or (take n pages) end 0) (take n pages)
replaced page pages zero end within lt once = absurd (omega arith)
replaced page pages (suc n) end within lt once =
    let len = length-take-le (suc n) pages within in
    let at = place_at (take (suc n) pages) end once (omega arith) in
    rw add-one (ap (λ xs. page ∷ xs) (taken_out (get_or (take (suc n) pages) end 0) pages n end within lt (sym at)))

module _
    (h : ℕ) (trace : List ℕ) (i : ℕ) (pages keys : List ℕ) (n : ℕ) (kept : Kept h trace i pages keys n) (lt : i < length trace)
    (in-pages : h ≤ length pages) (in-keys : h ≤ length keys) (next : ℕ) (is-next : next ≡ next_at trace i)
    (absent : has (take n pages) (get_or trace i 0) ≡ false) (end : ℕ) (place-for : Place h keys n end)
  where
    apart : (j : ℕ) → j < n → get_or pages j 0 ≡ get_or trace i 0 → ⊥
    apart j lt e =
        let few = kept.few in
        let len = length-take-le n pages (omega arith) in
        let before = place_before (take n pages) j (omega arith) in
        let past = place_absent (get_or trace i 0) (take n pages) absent in
        omega (arith, rw (get_or-take n pages j 0 lt ∙ e) at before)

    rekeyed :
        (m : ℕ) → end < h → ((j : ℕ) → suc j < m → (j < n) × (end ≤ j → suc j < n)) →
        Keyed trace (i + 1) (lifted (get_or trace i 0) end pages) (lifted next end keys) m
    rekeyed m inside old = keyed_lifted trace i pages keys n kept.keyed lt next is-next end m (omega arith) (omega arith) apart old

    -- a place was free
    free : n < h → Stepped h trace i (take n pages) (lifted (get_or trace i 0) end pages) (lifted next end keys) (n + 1)
    unfolding belady
    free room =
        let last : end ≡ n = place-for.free room in
        let len = length-take-le n pages (omega arith) in
        let keyed = rekeyed (n + 1) (omega arith) (λ j less. (omega arith, λ le. omega arith)) in
        let now = brought (get_or trace i 0) pages n end (omega arith) last in
        let under = lt-ltb (length (take n pages)) h (omega arith) in
        stepped h trace i pages keys n kept lt in-pages _ _ (n + 1) (omega arith) (rw (absent, under) now) keyed

    -- the page goes whose next use is furthest
    full : h ≤ n → Stepped h trace i (take n pages) (lifted (get_or trace i 0) end pages) (lifted next end keys) n
    unfolding belady
    full no_room =
        let few = kept.few in
        let latest = place-for.full no_room in
        let inside = latest.within in
        let cache = take n pages in
        let len = length-take-le n pages (omega arith) in
        let keyed = rekeyed n (omega arith) (λ j less. (omega arith, λ le. omega arith)) in
        let key : (j : ℕ) → j < n → get_or keys j 0 ≡ (i + 1) + next_use (get_or cache j 0) (drop (i + 1) trace) =
        λ j below. rw (get_or-take n pages j 0 below) (key_stays trace i pages keys n kept.keyed lt j below (apart j below)) in
        let last = key end inside in
        let goes =
        furthest_at cache (drop (i + 1) trace) (get_or trace i 0) end (omega arith)
        (λ j below. let m = latest.most j (omega arith) in let k = key j (omega arith) in omega arith)
        (λ j before. let m = latest.first j before in let k = key j (omega arith) in omega arith) in
        let now = replaced (get_or trace i 0) pages n end (omega arith) inside kept.once in
        let over = le-ltb (length (take n pages)) h (omega arith) in
        stepped h trace i pages keys n kept lt in-pages _ _ n few (rw (absent, over, goes) now) keyed

    pub stepped_comes :
        (new_pages new-keys : List ℕ) (m : ℕ) → new_pages ≡ lifted (get_or trace i 0) end pages → new-keys ≡ lifted next end keys →
        m ≡ min h (n + 1) → Stepped h trace i (take n pages) new_pages new-keys m
    stepped_comes new_pages new-keys m pages-are keys-are many =
        let few = kept.few in
        rw (pages-are, keys-are) (elim (cases_lt n h) [
          | inl room ↦ let e : m ≡ n + 1 = omega arith in rw e (free room)
          | inr no_room ↦ let e : m ≡ n = omega arith in rw e (full no_room)
        ])
