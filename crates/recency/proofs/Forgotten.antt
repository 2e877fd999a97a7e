-- The chains of a row when a slot is taken out of its own.
use Rattle.std.proofs.Common.{◌≡◌, ℕ, ◌+◌, ◌*◌, ◌<◌, ◌≤◌, true, ◌≢◌, List, ◌∷◌, ◌++◌, length, get_or, set, sym, refl, ap, ◌∙◌, subst, inl, inr, ⊎_elim, arith}
use Rattle.std.proofs.lemmas.Bool.{cases_eq}
use Rattle.std.proofs.lemmas.List.{get_or-set_same, get_or-set_other, length-set}
use Rattle.paging.specs.Lists.{has, distinct}
use Rattle.paging.proofs.Appends.{has_first, has_later, has_none, has_cut}
use Rattle.recency.specs.Hash.{home}
use Rattle.recency.specs.Row.{behind, lead, lead_at, door, homed, home_of, forgotten}
use Rattle.recency.specs.Sound.{Led, Finds}
use Rattle.recency.proofs.Chained.{has_rest, has_behind, homed_slots, door_leads}
use Rattle.recency.proofs.Frames.{Apart, apart_trans, apart_set, Leads, leads_below, Chains, rechained_held}
use Rattle.recency.proofs.Homes.{homed_own, homed_other, homed_append, homed_there, homed_once, homed_same}
use Rattle.recency.proofs.Led.{Slots, leads_apart, led_behind, led_lead, led_kept, led_forgot}

-- the edit, number by number
module _
    (k : ℕ) (row : List ℕ) (long : 9 * k + 5 ≤ length row) (s : ℕ) (low : 1 ≤ s) (inside : s ≤ k) (leads : Leads k (lead row s)) (near : behind row s ≤ k) where
  lead_below : lead row s < 9 * k + 5
  lead_below = leads_below k (lead row s) leads

  apart : lead row s ≢ lead_at (behind row s)
  apart = leads_apart k (lead row s) (behind row s) leads near

  forgot_moved : get_or (forgotten row s) (lead row s) 0 ≡ behind row s
  forgot_moved = let b = lead_below in let ne = apart in grind (arith, get_or-set_same, get_or-set_other, length-set)

  forgot_told : lead (forgotten row s) (behind row s) ≡ lead row s
  forgot_told = let b = lead_below in let ne = apart in grind (arith, get_or-set_same, get_or-set_other, length-set)

  forgot_else : (i : ℕ) → i ≢ lead row s → i ≢ lead_at (behind row s) → get_or (forgotten row s) i 0 ≡ get_or row i 0
  forgot_else i n1 n2 = grind (arith, get_or-set_same, get_or-set_other, length-set)

  pub forgot_apart : Apart k (Chains k) row (forgotten row s)
  forgot_apart =
      apart_trans k (Chains k) row (set row (lead row s) (behind row s)) (forgotten row s)
      (apart_set k (Chains k) row (lead row s) (behind row s) (inl leads) lead_below)
      (apart_set k (Chains k) (set row (lead row s) (behind row s)) (lead_at (behind row s)) (lead row s)
      (inr (record { slot = behind row s; above = omega arith; inside = near; is = refl })) (omega arith))

-- slot s is taken out of its chain
module _
    (k : ℕ) (row : List ℕ) (long : 9 * k + 5 ≤ length row) (xs : List ℕ) (s : ℕ) (ys : List ℕ) (all : Slots k (xs ++ s ∷ ys))
    (once : distinct (xs ++ s ∷ ys) ≡ true) (finds : Finds k row (xs ++ s ∷ ys)) (below : home_of k row s < 4 * k) where
  abbrev f : ℕ → ℕ
  f = home_of k row

  here : has (xs ++ s ∷ ys) s ≡ true
  here = has_cut xs s ys s ∙ has_first s (xs ++ ys)

  own_chain : homed f (f s) (xs ++ s ∷ ys) ≡ homed f (f s) xs ++ s ∷ homed f (f s) ys
  own_chain = homed_append f (f s) xs (s ∷ ys) ∙ ap (λ (zs : List ℕ). homed f (f s) xs ++ zs) (homed_own f (f s) s ys refl)

  own_led : Led row (door k (f s)) (homed f (f s) xs ++ s ∷ homed f (f s) ys)
  own_led = rw own_chain at (finds (f s) below)

  own_slots : Slots k (homed f (f s) xs ++ s ∷ homed f (f s) ys)
  own_slots = rw own_chain at (homed_slots k f (f s) (xs ++ s ∷ ys) all)

  pub own_lead : Leads k (lead row s) × (get_or row (lead row s) 0 ≡ s)
  own_lead = led_lead row k (homed f (f s) xs) (door k (f s)) s (homed f (f s) ys) (door_leads k (f s) below) own_slots own_led

  own_behind : has (0 ∷ homed f (f s) ys) (behind row s) ≡ true
  own_behind = led_behind row (homed f (f s) xs) (door k (f s)) s (homed f (f s) ys) own_led

  stay : (t : ℕ) → has (xs ++ ys) t ≡ true → has (xs ++ s ∷ ys) t ≡ true
  stay t there = has_cut xs s ys t ∙ has_later s (xs ++ ys) t there

  -- what is behind the slot has its home, where it is a slot
  behind_own : behind row s ≢ 0 → (has ys (behind row s) ≡ true) × (f (behind row s) ≡ f s)
  behind_own some = homed_there f (f s) ys (behind row s) (has_rest 0 (homed f (f s) ys) (behind row s) (λ q. some (sym q)) own_behind)

  pub own_near : behind row s ≤ k
  own_near =
      ⊎_elim (λ e. omega arith) (λ some. (all (behind row s) (has_cut xs s ys (behind row s) ∙ has_rest_cut (behind_own some).0)).1) (cases_eq (behind row s) 0)
    where
      has_rest_cut : has ys (behind row s) ≡ true → has (s ∷ (xs ++ ys)) (behind row s) ≡ true
      has_rest_cut there = has_later s (xs ++ ys) (behind row s) (has_behind xs ys (behind row s) there)

  abbrev row' : List ℕ
  row' = forgotten row s

  out_apart : Apart k (Chains k) row row'
  out_apart = forgot_apart k row long s (all s here).0 (all s here).1 own_lead.0 own_near

  homes_same : (h : ℕ) → homed (home_of k row') h (xs ++ ys) ≡ homed f h (xs ++ ys)
  homes_same h =
      homed_same (home_of k row') f h (xs ++ ys)
      (λ t there. ap (home k) (rechained_held k row row' out_apart t (all t (stay t there)).1))

  own_out : Led row' (door k (f s)) (homed f (f s) (xs ++ ys))
  own_out =
      let b = all s here in
      rw (homed_append f (f s) xs ys)
      (led_forgot k row row' s b.0 own_lead.0 own_lead.1 own_near
      (forgot_moved k row long s b.0 b.1 own_lead.0 own_near) (forgot_told k row long s b.0 b.1 own_lead.0 own_near)
      (forgot_else k row long s b.0 b.1 own_lead.0 own_near) (homed f (f s) xs) (door k (f s)) (homed f (f s) ys) (door_leads k (f s) below) own_slots
      (rw own_chain at (homed_once f (f s) (xs ++ s ∷ ys) once)) own_led)

  other_out : (h : ℕ) → h < 4 * k → f s ≢ h → Led row' (door k h) (homed f h (xs ++ ys))
  other_out h lt ne =
      let b = all s here in
      let chain : homed f h (xs ++ s ∷ ys) ≡ homed f h (xs ++ ys) =
      homed_append f h xs (s ∷ ys) ∙ ap (λ (zs : List ℕ). homed f h xs ++ zs) (homed_other f h s ys ne) ∙ sym (homed_append f h xs ys) in
      led_kept k row row' s b.0 own_lead.0 own_lead.1 own_near
      (forgot_moved k row long s b.0 b.1 own_lead.0 own_near) (forgot_told k row long s b.0 b.1 own_lead.0 own_near)
      (forgot_else k row long s b.0 b.1 own_lead.0 own_near) (door k h) (homed f h (xs ++ ys)) (door_leads k h lt)
      (homed_slots k f h (xs ++ ys) (λ t there. all t (stay t there)))
      (has_none (homed f h (xs ++ ys)) s (λ there. ne (homed_there f h (xs ++ ys) s there).1))
      (has_none (homed f h (xs ++ ys)) (behind row s) (λ there. far (homed_there f h (xs ++ ys) (behind row s) there)))
      (rw chain at (finds h lt))
    where
      far : (has (xs ++ ys) (behind row s) ≡ true) × (f (behind row s) ≡ h) → ⊥
      far x =
          ⊎_elim (λ e. let low = (all (behind row s) (stay (behind row s) x.0)).0 in omega arith) (λ some. ne (sym (behind_own some).1 ∙ x.1))
          (cases_eq (behind row s) 0)

  pub finds_forgot : Finds k row' (xs ++ ys)
  finds_forgot h lt =
      rw (homes_same h) (⊎_elim (λ e. subst (λ i. Led row' (door k i) (homed f i (xs ++ ys))) e own_out) (λ ne. other_out h lt ne) (cases_eq (f s) h))
