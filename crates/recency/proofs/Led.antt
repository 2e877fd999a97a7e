-- A chain: what taking a slot out of one and putting one in front do to it and to the others.
use Rattle.std.proofs.Common.{◌≡◌, ℕ, ◌+◌, ◌*◌, ◌≤◌, true, false, ◌≢◌, List, [], ◌∷◌, ◌++◌, get_or, sym, refl, ap, ◌∙◌, ⊎_elim, inr, arith}
use Rattle.std.proofs.lemmas.Bool.{true≢false}
use Rattle.std.proofs.lemmas.Bool.Decides.{nat_tests}
use Rattle.paging.specs.Lists.{has, distinct}
use Rattle.paging.proofs.Appends.{has_append, has_tail, has_first, has_later, has_apart, has_cut, distinct_cons}
use Rattle.recency.specs.Row.{behind, lead, behind_at, lead_at}
use Rattle.recency.specs.Sound.{Led}
use Rattle.recency.proofs.Frames.{Leads}

-- slots from 1 to k
abbrev pub Slots : ℕ → List ℕ → Type 0
Slots k slots = (t : ℕ) → has slots t ≡ true → (1 ≤ t) × (t ≤ k)

pub slots_rest : (k t : ℕ) (slots : List ℕ) → Slots k (t ∷ slots) → Slots k slots
slots_rest k t slots all x there = all x (has_later t slots x there)

pub behind_leads : (k t : ℕ) (slots : List ℕ) → Slots k (t ∷ slots) → Leads k (behind_at t)
behind_leads k t slots all =
    let b = all t (has_first t slots) in
    inr (record { slot = t; above = b.0; inside = b.1; is = refl })

-- what leads to a slot is no number that says what leads to one
pub leads_apart : (k at t : ℕ) → Leads k at → t ≤ k → at ≢ lead_at t
leads_apart k at t leads le e = ⊎_elim (λ x. omega (arith, x.0)) (λ x. omega (arith, x.is)) leads

module _ (row : List ℕ) where
  pub led_first : (at : ℕ) (slots : List ℕ) → Led row at slots → has (0 ∷ slots) (get_or row at 0) ≡ true
  unfolding Led has
  led_first at [] led = grind (arith, nat_tests)
  led_first at (t ∷ slots) led = grind (arith, nat_tests)

  -- what is behind a slot of a chain is one of those after it, or 0
  pub led_behind : (xs : List ℕ) (at s : ℕ) (ys : List ℕ) → Led row at (xs ++ s ∷ ys) → has (0 ∷ ys) (behind row s) ≡ true
  unfolding Led
  led_behind [] at s ys led = led_first (behind_at s) ys led.2
  led_behind (x ∷ xs) at s ys led = led_behind xs (behind_at x) s ys led.2

  -- what a slot says that leads to it does so
  pub led_lead :
      (k : ℕ) (xs : List ℕ) (at s : ℕ) (ys : List ℕ) → Leads k at → Slots k (xs ++ s ∷ ys) → Led row at (xs ++ s ∷ ys) →
      Leads k (lead row s) × (get_or row (lead row s) 0 ≡ s)
  unfolding Led
  led_lead k [] at s ys leads all led = (rw led.1 leads, ap (λ (i : ℕ). get_or row i 0) led.1 ∙ led.0)
  led_lead k (x ∷ xs) at s ys leads all led =
      led_lead k xs (behind_at x) s ys (behind_leads k x (xs ++ s ∷ ys) all) (slots_rest k x (xs ++ s ∷ ys) all) led.2

-- a chain whose own numbers are the same stays
pub led_same :
    (row row' : List ℕ) (at : ℕ) (slots : List ℕ) → get_or row' at 0 ≡ get_or row at 0 →
    ((t : ℕ) → has slots t ≡ true → (behind row' t ≡ behind row t) × (lead row' t ≡ lead row t)) → Led row at slots → Led row' at slots
unfolding Led
led_same row row' at [] e same led = e ∙ led
led_same row row' at (t ∷ slots) e same led =
    let own = same t (has_first t slots) in (
      e ∙ led.0,
      own.1 ∙ led.1,
      led_same row row' (behind_at t) slots own.0 (λ x there. same x (has_later t slots x there)) led.2,
    )

-- a slot that is not in the list is not what stands behind s in it
behind_later : (x s b : ℕ) (xs ys : List ℕ) → 1 ≤ x → has (xs ++ s ∷ ys) x ≡ false → has (0 ∷ ys) b ≡ true → x ≢ b
unfolding has
behind_later x s b xs ys low absent there q =
    let e : has (0 ∷ ys) x ≡ has (0 ∷ ys) b = ap (has (0 ∷ ys)) q in
    let c = has_append xs (s ∷ ys) x in
    let t : true ≡ false = sym there ∙ sym e ∙ grind (arith, nat_tests) in
    true≢false t

-- row' is row with slot s taken out of its chain
module _
    (k : ℕ) (row row' : List ℕ) (s : ℕ) (some : 1 ≤ s) (leads : Leads k (lead row s)) (is : get_or row (lead row s) 0 ≡ s) (near : behind row s ≤ k)
    (moved : get_or row' (lead row s) 0 ≡ behind row s) (told : lead row' (behind row s) ≡ lead row s)
    (else : (i : ℕ) → i ≢ lead row s → i ≢ lead_at (behind row s) → get_or row' i 0 ≡ get_or row i 0) where
  -- a number that leads to another slot, or to none, is the same
  lead_else : (at t : ℕ) → Leads k at → get_or row at 0 ≡ t → t ≢ s → get_or row' at 0 ≡ t
  lead_else at t at-leads e ne =
      else at (λ q. ne (sym e ∙ ap (λ (i : ℕ). get_or row i 0) q ∙ is)) (leads_apart k at (behind row s) at-leads near) ∙ e

  told_else : (t : ℕ) → t ≤ k → t ≢ behind row s → lead row' t ≡ lead row t
  told_else t le ne = else (lead_at t) (λ q. leads_apart k (lead row s) t leads le (sym q)) (λ q. ne (omega arith))

  -- a chain with neither the slot nor the one behind it stays
  pub led_kept :
      (at : ℕ) (slots : List ℕ) → Leads k at → Slots k slots → has slots s ≡ false → has slots (behind row s) ≡ false → Led row at slots → Led row' at slots
  unfolding Led
  led_kept at [] at-leads all absent far led = lead_else at 0 at-leads led (λ q. omega arith)
  led_kept at (t ∷ slots) at-leads all absent far led =
      let a = has_tail t slots s absent in
      let f = has_tail t slots (behind row s) far in (
        lead_else at t at-leads led.0 a.0,
        told_else t (all t (has_first t slots)).1 f.0 ∙ led.1,
        led_kept (behind_at t) slots (behind_leads k t slots all) (slots_rest k t slots all) a.1 f.1 led.2,
      )

  -- its own chain is without it
  pub led_forgot :
      (xs : List ℕ) (at : ℕ) (ys : List ℕ) → Leads k at → Slots k (xs ++ s ∷ ys) → distinct (xs ++ s ∷ ys) ≡ true → Led row at (xs ++ s ∷ ys) → Led row' at (xs ++ ys)
  unfolding Led
  led_forgot [] at [] at-leads all once led = ap (λ (i : ℕ). get_or row' i 0) (sym led.1) ∙ moved ∙ led.2
  led_forgot [] at (y ∷ ys) at-leads all once led =
      let rest = slots_rest k s (y ∷ ys) all in
      let outer = distinct_cons s (y ∷ ys) once in
      let inner = distinct_cons y ys outer.1 in
      let b : behind row s ≡ y = led.2.0 in (
        ap (λ (i : ℕ). get_or row' i 0) (sym led.1) ∙ moved ∙ b,
        ap (lead row') (sym b) ∙ told ∙ led.1,
        led_kept (behind_at y) ys (behind_leads k y ys rest) (slots_rest k y ys rest) (has_tail y ys s outer.0).1 (ap (has ys) b ∙ inner.0) led.2.2,
      )
  led_forgot (x ∷ xs) at ys at-leads all once led =
      let d = distinct_cons x (xs ++ s ∷ ys) once in
      let here : has (xs ++ s ∷ ys) s ≡ true = has_cut xs s ys s ∙ has_first s (xs ++ ys) in
      let b = all x (has_first x (xs ++ s ∷ ys)) in (
        lead_else at x at-leads led.0 (λ q. has_apart (xs ++ s ∷ ys) s x here d.0 (sym q)),
        told_else x b.1 (λ q. behind_later x s (behind row s) xs ys b.0 d.0 (led_behind row xs (behind_at x) s ys led.2) q) ∙ led.1,
        led_forgot xs (behind_at x) ys (behind_leads k x (xs ++ s ∷ ys) all) (slots_rest k x (xs ++ s ∷ ys) all) d.1 led.2,
      )

-- row' is row with slot s, which is in no chain, put in front of the one that begins at d
module _
    (k : ℕ) (row row' : List ℕ) (s d : ℕ) (some : 1 ≤ s) (inside : s ≤ k) (a-door : 5 * k + 5 ≤ d) (new : s ≢ get_or row d 0)
    (next : behind row' s ≡ get_or row d 0) (from : lead row' s ≡ d) (first : get_or row' d 0 ≡ s) (told : lead row' (get_or row d 0) ≡ behind_at s)
    (near : get_or row d 0 ≤ k)
    (else : (i : ℕ) → i ≢ behind_at s → i ≢ lead_at s → i ≢ d → i ≢ lead_at (get_or row d 0) → get_or row' i 0 ≡ get_or row i 0) where
  -- a chain with neither the slot nor the one that was first there stays
  pub led_stays :
      (at : ℕ) (slots : List ℕ) → Leads k at → at ≢ d → at ≢ behind_at s → Slots k slots → has slots s ≡ false → has slots (get_or row d 0) ≡ false → Led row at slots →
      Led row' at slots
  unfolding Led
  led_stays at [] at-leads no-door no-s all absent far led =
      else at no-s (leads_apart k at s at-leads inside) no-door (leads_apart k at (get_or row d 0) at-leads near) ∙ led
  led_stays at (t ∷ slots) at-leads no-door no-s all absent far led =
      let a = has_tail t slots s absent in
      let f = has_tail t slots (get_or row d 0) far in
      let b = all t (has_first t slots) in
      let low = b.0 in
      let high = b.1 in
      let ts = a.0 in
      let tf = f.0 in (
        else at no-s (leads_apart k at s at-leads inside) no-door (leads_apart k at (get_or row d 0) at-leads near) ∙ led.0,
        else (lead_at t) (λ q. omega arith) (λ q. ts (omega arith)) (λ q. omega arith) (λ q. tf (omega arith)) ∙ led.1,
        led_stays (behind_at t) slots (behind_leads k t slots all) (λ q. omega arith) (λ q. ts (omega arith)) (slots_rest k t slots all) a.1 f.1 led.2,
      )

  -- its own chain begins with it
  pub led_entered : (slots : List ℕ) → Slots k slots → distinct slots ≡ true → has slots s ≡ false → Led row d slots → Led row' d (s ∷ slots)
  unfolding Led
  led_entered [] all once absent led = (first, from, next ∙ led)
  led_entered (y ∷ ys) all once absent led =
      let dist = distinct_cons y ys once in
      let y-first : get_or row d 0 ≡ y = led.0 in
      let b = all y (has_first y ys) in
      let high = b.1 in
      let a = has_tail y ys s absent in
      let ys-new = a.0 in (
        first,
        from,
        (
          next ∙ y-first,
          ap (lead row') (sym y-first) ∙ told,
          led_stays (behind_at y) ys (behind_leads k y ys all) (λ q. omega arith) (λ q. ys-new (omega arith)) (slots_rest k y ys all) a.1 (ap (has ys) y-first ∙ dist.0) led.2,
        ),
      )
