-- The chains of a row when a slot is put in front of its page's.
use Rattle.std.proofs.Common.{◌≡◌, ℕ, ◌+◌, ◌*◌, ◌<◌, ◌≤◌, true, false, ◌≢◌, List, ◌∷◌, length, get_or, set, sym, refl, ap, ◌∙◌, subst, inl, inr, ⊎_elim, arith}
use Rattle.std.proofs.lemmas.Bool.{cases_eq}
use Rattle.std.proofs.lemmas.List.{get_or-set_same, get_or-set_other, length-set}
use Rattle.paging.specs.Lists.{has, distinct}
use Rattle.paging.proofs.Appends.{has_none, has_apart}
use Rattle.recency.specs.Hash.{home}
use Rattle.recency.specs.Row.{behind, lead, behind_at, lead_at, door, homed, home_of, entered}
use Rattle.recency.specs.Sound.{Led, Finds}
use Rattle.recency.proofs.Chained.{has_rest, homed_slots, door_leads, door_near}
use Rattle.recency.proofs.Frames.{Apart, apart_trans, apart_set, Chains, rechained_held}
use Rattle.recency.proofs.Homes.{homed_own, homed_other, homed_there, homed_once, homed_same}
use Rattle.recency.proofs.Led.{Slots, led_first, led_stays, led_entered}

-- the edit, number by number
module _
    (k : ℕ) (row : List ℕ) (long : 9 * k + 5 ≤ length row) (s h : ℕ) (low : 1 ≤ s) (inside : s ≤ k) (home-below : h < 4 * k)
    (near : get_or row (door k h) 0 ≤ k) (new : s ≢ get_or row (door k h) 0) where
  entered_next : behind (entered row (door k h) s) s ≡ get_or row (door k h) 0
  entered_next = grind (arith, get_or-set_same, get_or-set_other, length-set)

  entered_from : lead (entered row (door k h) s) s ≡ door k h
  entered_from = grind (arith, get_or-set_same, get_or-set_other, length-set)

  entered_first : get_or (entered row (door k h) s) (door k h) 0 ≡ s
  entered_first = grind (arith, get_or-set_same, get_or-set_other, length-set)

  entered_told : lead (entered row (door k h) s) (get_or row (door k h) 0) ≡ behind_at s
  entered_told = grind (arith, get_or-set_same, get_or-set_other, length-set)

  entered_else :
      (i : ℕ) → i ≢ behind_at s → i ≢ lead_at s → i ≢ door k h → i ≢ lead_at (get_or row (door k h) 0) → get_or (entered row (door k h) s) i 0 ≡ get_or row i 0
  entered_else i n1 n2 n3 n4 = grind (arith, get_or-set_same, get_or-set_other, length-set)

  pub entered_apart : Apart k (Chains k) row (entered row (door k h) s)
  entered_apart =
      let d = door k h in
      let n = get_or row d 0 in
      let a = set row (behind_at s) n in
      let b = set a (lead_at s) d in
      let c = set b d s in
      apart_trans k (Chains k) row a (entered row d s)
      (apart_set k (Chains k) row (behind_at s) n (inl (inr (record { slot = s; above = low; inside = inside; is = refl }))) (omega arith))
      (apart_trans k (Chains k) a b (entered row d s)
      (apart_set k (Chains k) a (lead_at s) d (inr (record { slot = s; above = omega arith; inside = inside; is = refl })) (omega arith))
      (apart_trans k (Chains k) b c (entered row d s)
      (apart_set k (Chains k) b d s (inl (inl (omega arith, omega arith))) (omega arith))
      (apart_set k (Chains k) c (lead_at n) (behind_at s) (inr (record { slot = n; above = omega arith; inside = near; is = refl })) (omega arith))))

-- slot s, which is in no chain, is put in front of that of its page
module _
    (k : ℕ) (row : List ℕ) (long : 9 * k + 5 ≤ length row) (order : List ℕ) (s : ℕ) (low : 1 ≤ s) (inside : s ≤ k) (all : Slots k order)
    (once : distinct order ≡ true) (absent : has order s ≡ false) (finds : Finds k row order) (below : home_of k row s < 4 * k) where
  abbrev g : ℕ → ℕ
  g = home_of k row

  abbrev first : ℕ
  first = get_or row (door k (g s)) 0

  first_there : has (0 ∷ homed g (g s) order) first ≡ true
  first_there = led_first row (door k (g s)) (homed g (g s) order) (finds (g s) below)

  first_own : first ≢ 0 → (has order first ≡ true) × (g first ≡ g s)
  first_own some = homed_there g (g s) order first (has_rest 0 (homed g (g s) order) first (λ q. some (sym q)) first_there)

  first_near : first ≤ k
  first_near = door_near k row order (g s) all finds below

  first_new : s ≢ first
  first_new e = ⊎_elim (λ q. omega arith) (λ some. has_apart order first s (first_own some).0 absent (sym e)) (cases_eq first 0)

  abbrev row'' : List ℕ
  row'' = entered row (door k (g s)) s

  pub in_apart : Apart k (Chains k) row row''
  in_apart = entered_apart k row long s (g s) low inside below first_near first_new

  same_homes : (h : ℕ) → homed (home_of k row'') h order ≡ homed g h order
  same_homes h = homed_same (home_of k row'') g h order (λ t there. ap (home k) (rechained_held k row row'' in_apart t (all t there).1))

  same_home : home_of k row'' s ≡ g s
  same_home = ap (home k) (rechained_held k row row'' in_apart s inside)

  own_in : Led row'' (door k (g s)) (homed (home_of k row'') (g s) (s ∷ order))
  own_in =
      rw (homed_own (home_of k row'') (g s) s order same_home, same_homes (g s))
      (led_entered k row row'' s (door k (g s)) low inside (omega arith) first_new
      (entered_next k row long s (g s) low inside below first_near first_new) (entered_from k row long s (g s) low inside below first_near first_new)
      (entered_first k row long s (g s) low inside below first_near first_new) (entered_told k row long s (g s) low inside below first_near first_new)
      first_near (entered_else k row long s (g s) low inside below first_near first_new) (homed g (g s) order)
      (homed_slots k g (g s) order all) (homed_once g (g s) order once)
      (has_none (homed g (g s) order) s (λ there. has_apart order s s (homed_there g (g s) order s there).0 absent refl)) (finds (g s) below))

  other_in : (h : ℕ) → h < 4 * k → g s ≢ h → Led row'' (door k h) (homed (home_of k row'') h (s ∷ order))
  other_in h lt ne =
      rw (homed_other (home_of k row'') h s order (λ e. ne (sym same_home ∙ e)), same_homes h)
      (led_stays k row row'' s (door k (g s)) low inside (omega arith) first_new
      (entered_next k row long s (g s) low inside below first_near first_new) (entered_from k row long s (g s) low inside below first_near first_new)
      (entered_first k row long s (g s) low inside below first_near first_new) (entered_told k row long s (g s) low inside below first_near first_new)
      first_near (entered_else k row long s (g s) low inside below first_near first_new) (door k h) (homed g h order)
      (door_leads k h lt) (λ e. ne (omega arith)) (λ e. omega arith) (homed_slots k g h order all)
      (has_none (homed g h order) s (λ there. has_apart order s s (homed_there g h order s there).0 absent refl))
      (has_none (homed g h order) first (λ there. far (homed_there g h order first there))) (finds h lt))
    where
      far : (has order first ≡ true) × (g first ≡ h) → ⊥
      far x =
          ⊎_elim (λ e. let b = (all first x.0).0 in omega arith) (λ some. ne (sym (first_own some).1 ∙ x.1)) (cases_eq first 0)

  pub finds_entered : Finds k row'' (s ∷ order)
  finds_entered h lt =
      ⊎_elim (λ e. subst (λ i. Led row'' (door k i) (homed (home_of k row'') i (s ∷ order))) e own_in) (λ ne. other_in h lt ne) (cases_eq (g s) h)
