-- A search along a chain: what is still to come, and what its end has shown.
use Rattle.std.proofs.Common.{◌≡◌, ℕ, zero, suc, ◌+◌, ◌*◌, ◌<◌, ◌≤◌, true, ◌≢◌, List, [], ◌∷◌, length, get_or, sym, refl, ap, ◌∙◌, ⊎_elim, arith}
use Rattle.std.proofs.lemmas.Bool.{true≢false, cases_eq}
use Rattle.paging.specs.Lists.{has}
use Rattle.paging.proofs.Appends.{has_first, has_later}
use Rattle.recency.specs.Hash.{home}
use Rattle.recency.specs.Row.{count, held, behind, behind_at, door, home_of, homed}
use Rattle.recency.specs.Sound.{Led, Sound}
use Rattle.recency.proofs.Chained.{has_rest}
use Rattle.recency.proofs.Homes.{homed_there, there_homed, homed_short}
use Rattle.recency.proofs.Pages.{linked_low}
use Rattle.recency.proofs.Served.{home_below}

led_end : (row : List ℕ) (at : ℕ) → Led row at [] → get_or row at 0 ≡ 0
unfolding Led
led_end row at led = led

led_head : (row : List ℕ) (at x : ℕ) (xs : List ℕ) → Led row at (x ∷ xs) → get_or row at 0 ≡ x
unfolding Led
led_head row at x xs led = led.0

led_tail : (row : List ℕ) (at x : ℕ) (xs : List ℕ) → Led row at (x ∷ xs) → Led row (behind_at x) xs
unfolding Led
led_tail row at x xs led = led.2

none_there : (t : ℕ) → has [] t ≡ true → ⊥
unfolding has
none_there t there = true≢false (sym there)

-- how many slots there are from s on until 0, n at most
pub steps : ℕ → (ℕ → ℕ) → ℕ → ℕ
steps zero f zero = 0
steps zero f (suc s) = 0
steps (suc n) f zero = 0
steps (suc n) f (suc s) = suc (steps n f (f (suc s)))

steps_none : (n : ℕ) (f : ℕ → ℕ) → steps n f 0 ≡ 0
unfolding steps
steps_none zero f = refl
steps_none (suc n) f = refl

steps_some : (n : ℕ) (f : ℕ → ℕ) (s : ℕ) → 1 ≤ s → steps (suc n) f s ≡ suc (steps n f (f s))
unfolding steps
steps_some n f zero low = absurd (omega arith)
steps_some n f (suc s) low = refl

-- as many as the rest of the chain has
steps_led :
    (row : List ℕ) (n at : ℕ) (rest : List ℕ) → Led row at rest → ((t : ℕ) → has rest t ≡ true → 1 ≤ t) → length rest ≤ n →
    steps n (behind row) (get_or row at 0) ≡ length rest
steps_led row n at [] led slots few = ap (steps n (behind row)) (led_end row at led) ∙ steps_none n (behind row)
steps_led row zero at (x ∷ xs) led slots few = absurd (omega arith)
steps_led row (suc n) at (x ∷ xs) led slots few =
    let i = steps_led row n (behind_at x) xs (led_tail row at x xs led) (λ t there. slots t (has_later x xs t there)) (omega arith) in
    let x-some = slots x (has_first x xs) in
    ap (steps (suc n) (behind row)) (led_head row at x xs led) ∙ steps_some n (behind row) x x-some ∙ ap suc i

-- the search for page is at slot: what is behind it is the rest of its chain, where every slot with the page is
pub record Seeking (k : ℕ) (row : List ℕ) (page slot : ℕ) : Type 0 where
  pub at : ℕ
  pub rest : List ℕ
  pub led : Led row at rest
  pub here : slot ≡ get_or row at 0
  pub few : length rest ≤ k
  pub slots : (t : ℕ) → has rest t ≡ true → (1 ≤ t) × (t ≤ count row)
  pub there : (t : ℕ) → 1 ≤ t → t ≤ count row → held row t ≡ page → has rest t ≡ true

pub seeking_first : (k : ℕ) (row : List ℕ) (page : ℕ) → Sound k row → Seeking k row page (get_or row (door k (home k page)) 0)
seeking_first k row page sound =
    let h = home k page in
    let f = home_of k row in
    record {
      at = door k h;
      rest = homed f h sound.order;
      led = sound.finds h (home_below k page sound.sized.low sound.sized.high);
      here = refl;
      few = omega (arith, homed_short f h sound.order, sound.many, sound.sized.few);
      slots = λ t there.
          let b = (homed_there f h sound.order t there).0 in
          (linked_low (count row) row sound.order sound.linked t b, sound.linked.within t b);
      there = λ t low high e. there_homed f h sound.order t (sound.all t low high) (ap (home k) e);
    }

module _ (k : ℕ) (row : List ℕ) (page slot : ℕ) (s : Seeking k row page slot) where
  -- at slot 0 no slot has the page
  pub none_left : slot ≡ 0 → (t : ℕ) → 1 ≤ t → t ≤ count row → held row t ≡ page → ⊥
  none_left end = go s.at s.rest s.led s.here s.slots s.there
    where
      go :
          (at : ℕ) (rest : List ℕ) → Led row at rest → slot ≡ get_or row at 0 → ((t : ℕ) → has rest t ≡ true → (1 ≤ t) × (t ≤ count row)) →
          ((t : ℕ) → 1 ≤ t → t ≤ count row → held row t ≡ page → has rest t ≡ true) → (t : ℕ) → 1 ≤ t → t ≤ count row → held row t ≡ page → ⊥
      go at [] led here slots there t low high e = none_there t (there t low high e)
      go at (x ∷ xs) led here slots there t low high e =
          let b = slots x (has_first x xs) in
          let q = led_head row at x xs led in
          omega (arith, b.0, q, here, end)

  -- another slot is one with a page
  pub some_left : slot ≢ 0 → (1 ≤ slot) × (slot ≤ count row)
  some_left ne = go s.at s.rest s.led s.here s.slots
    where
      go : (at : ℕ) (rest : List ℕ) → Led row at rest → slot ≡ get_or row at 0 → ((t : ℕ) → has rest t ≡ true → (1 ≤ t) × (t ≤ count row)) → (1 ≤ slot) × (slot ≤ count row)
      go at [] led here slots = absurd (ne (here ∙ led_end row at led))
      go at (x ∷ xs) led here slots = let e = here ∙ led_head row at x xs led in rw e (slots x (has_first x xs))

  -- a slot with another page is passed
  pub record Passed : Type 0 where
    pub on : Seeking k row page (behind row slot)
    pub fewer : steps k (behind row) (behind row slot) < steps k (behind row) slot

  pub seeking_next : slot ≢ 0 → held row slot ≢ page → Passed
  seeking_next ne other = go s.at s.rest s.led s.here s.few s.slots s.there
    where
      go :
          (at : ℕ) (rest : List ℕ) → Led row at rest → slot ≡ get_or row at 0 → length rest ≤ k → ((t : ℕ) → has rest t ≡ true → (1 ≤ t) × (t ≤ count row)) →
          ((t : ℕ) → 1 ≤ t → t ≤ count row → held row t ≡ page → has rest t ≡ true) → Passed
      go at [] led here few slots there = absurd (ne (here ∙ led_end row at led))
      go at (x ∷ xs) led here few slots there =
          let is : slot ≡ x = here ∙ led_head row at x xs led in
          let tail = led_tail row at x xs led in
          let low = λ (t : ℕ) (h : has (x ∷ xs) t ≡ true). (slots t h).0 in
          let all = ap (steps k (behind row)) here ∙ steps_led row k at (x ∷ xs) led low few in
          let left = steps_led row k (behind_at x) xs tail (λ t h. low t (has_later x xs t h)) (omega arith) in
          let on = ap (steps k (behind row)) (ap (behind row) is) ∙ left in
          record {
            on = record {
              at = behind_at x;
              rest = xs;
              led = tail;
              here = ap (behind row) is;
              few = omega arith;
              slots = λ t h. slots t (has_later x xs t h);
              there = λ t tlow high e. has_rest x xs t (λ q. other (ap (held row) (is ∙ q) ∙ e)) (there t tlow high e);
            };
            fewer = omega (arith, all, on);
          }

-- a search, and the bounds of what it reads
abbrev pub Searching : ℕ → List ℕ → ℕ → ℕ → Type 0
Searching k row page slot = Seeking k row page slot × (slot ≤ k) × (9 * k + 5 ≤ length row)

module _ (k : ℕ) (row : List ℕ) (page : ℕ) (sound : Sound k row) where
  bounded : (slot : ℕ) → Seeking k row page slot → Searching k row page slot
  bounded slot s = (
    s,
    ⊎_elim (λ e. omega arith) (λ ne. omega (arith, (some_left k row page slot s ne).1, sound.sized.few)) (cases_eq slot 0),
    sound.sized.long,
  )

  pub searching_first : (at : ℕ) → at ≡ door k (home k page) → Searching k row page (get_or row at 0)
  searching_first at e = rw e (bounded (get_or row (door k (home k page)) 0) (seeking_first k row page sound))

  pub searching_next : (slot : ℕ) → Seeking k row page slot → slot ≢ 0 → held row slot ≢ page → Searching k row page (behind row slot)
  searching_next slot s ne other = bounded (behind row slot) (seeking_next k row page slot s ne other).on
