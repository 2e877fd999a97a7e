-- The chains of a row: where they begin, and what leaves them as they are.
use Rattle.std.proofs.Common.{◌≡◌, ℕ, ◌+◌, ◌*◌, ◌<◌, ◌≤◌, true, ◌≢◌, List, ◌∷◌, ◌++◌, get_or, sym, ap, inl, ⊎_elim, arith}
use Rattle.std.proofs.lemmas.Bool.{cases_eq}
use Rattle.std.proofs.lemmas.Bool.Decides.{nat_tests}
use Rattle.paging.specs.Lists.{has}
use Rattle.paging.proofs.Appends.{has_append}
use Rattle.recency.specs.Hash.{home}
use Rattle.recency.specs.Row.{held, behind, lead, door, homed, home_of}
use Rattle.recency.specs.Sound.{Finds}
use Rattle.recency.proofs.Frames.{Leads}
use Rattle.recency.proofs.Homes.{homed_there, homed_same}
use Rattle.recency.proofs.Led.{Slots, led_first, led_same}

pub door_leads : (k h : ℕ) → h < 4 * k → Leads k (door k h)
door_leads k h below = inl (omega arith, omega arith)

-- the slots of one home are slots of the ring
pub homed_slots : (k : ℕ) (f : ℕ → ℕ) (h : ℕ) (order : List ℕ) → Slots k order → Slots k (homed f h order)
homed_slots k f h order all t there = all t (homed_there f h order t there).0

-- the chains of a row with the same pages and chains
pub finds_same :
    (k : ℕ) (row row' order : List ℕ) → ((t : ℕ) → has order t ≡ true → held row' t ≡ held row t) →
    ((t : ℕ) → has order t ≡ true → (behind row' t ≡ behind row t) × (lead row' t ≡ lead row t)) →
    ((i : ℕ) → 5 * k + 5 ≤ i → get_or row' i 0 ≡ get_or row i 0) → Finds k row order → Finds k row' order
finds_same k row row' order pages chains doors finds h below =
    let same = homed_same (home_of k row') (home_of k row) h order (λ t there. ap (home k) (pages t there)) in
    rw same
    (led_same row row' (door k h) (homed (home_of k row) h order) (doors (door k h) (omega arith))
    (λ t there. chains t (homed_there (home_of k row) h order t there).0) (finds h below))

pub has_rest : (x : ℕ) (xs : List ℕ) (y : ℕ) → x ≢ y → has (x ∷ xs) y ≡ true → has xs y ≡ true
unfolding has
has_rest x xs y ne there = grind (arith, nat_tests)

pub has_behind : (xs ys : List ℕ) (x : ℕ) → has ys x ≡ true → has (xs ++ ys) x ≡ true
has_behind xs ys x there = let a = has_append xs ys x in grind (arith, nat_tests)

-- a chain begins with a slot of the ring, or with none
pub door_near : (k : ℕ) (row order : List ℕ) (h : ℕ) → Slots k order → Finds k row order → h < 4 * k → get_or row (door k h) 0 ≤ k
door_near k row order h all finds lt =
    let b = get_or row (door k h) 0 in
    let f = home_of k row in
    ⊎_elim (λ e. omega arith)
    (λ some.
    (all b (homed_there f h order b (has_rest 0 (homed f h order) b (λ q. some (sym q)) (led_first row (door k h) (homed f h order) (finds h lt)))).0).1)
    (cases_eq b 0)
