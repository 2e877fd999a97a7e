-- A text that grows piece by piece. Assumes nothing.
--     told_more, told_done                n pieces, of which those before the i-th are in the text: one more, and all
--     Reached, reached_first, reached_more     the same where the i-th piece is that of a number, and these are s apart from the first on
--     fetches_more, fetches_done          the axis for fetches: one number more, and all
--     places_more, places_done            and that for places
--     step_told, step_none                a step of a line
--     steps_first                         there is none at the first place
use Rattle.std.proofs.Common.{◌≡◌, ℕ, suc, ◌+◌, ◌-◌, ◌*◌, ◌/◌, ◌<◌, ◌≤◌, true, false, eqb, List, ◌++◌, get_or, sym, refl, ap, ◌∙◌, append_assoc, append-nil, arith}
use Rattle.std.proofs.Math.Nat.{add-mul, div-lt_iff_lt-mul}
use Rattle.std.proofs.lemmas.Nat.{le-div}
use Rattle.std.proofs.lemmas.Bool.Decides.{nat_tests}
use Rattle.picture.specs.Drawn.{shape_bytes}
use Rattle.picture.specs.Pictured.{told, fetches_piece, places_piece, steps_piece}
use Rattle.picture.specs.Scaled.{edge, height, middle}
use Rattle.picture.specs.declared.shapes.Shape.TheVariants.{Fetches, Places, Step}

module _ (piece : ℕ → List ℕ) (end i : ℕ) (text all : List ℕ) (was : text ++ told piece i (end - i) ≡ all) where
  pub told_more : (text' : List ℕ) → i < end → text' ≡ text ++ piece i → text' ++ told piece (i + 1) (end - (i + 1)) ≡ all
  unfolding told
  told_more text' less is =
      let left : end - i ≡ suc (end - (i + 1)) = omega arith in
      rw (is, append_assoc) (rw left at was)

  pub told_done : end ≤ i → text ≡ all
  unfolding told
  told_done done =
      let left : end - i ≡ 0 = omega arith in
      sym (append-nil text) ∙ (rw left at was)

pub record Reached (piece : ℕ → List ℕ) (end n first s : ℕ) (text all : List ℕ) : Type 0 where
  pub i : ℕ
  pub number : n ≡ i * s + first
  pub so_far : text ++ told piece i (end - i) ≡ all

pub reached_first : (piece : ℕ → List ℕ) (end n first s : ℕ) (text : List ℕ) → n ≡ first → Reached piece end n first s text (text ++ told piece 0 end)
reached_first piece end n first s text is = let left : end - 0 ≡ end = omega arith in record { i = 0; number = omega arith; so_far = rw left refl }

pub reached_more :
    (piece : ℕ → List ℕ) (end n first s : ℕ) (text all : List ℕ) (r : Reached piece end n first s text all) (text' : List ℕ) →
    r.i < end → text' ≡ text ++ piece r.i → Reached piece end (n + s) first s text' all
reached_more piece end n first s text all r text' less is =
    record { i = r.i + 1; number = omega (arith, r.number, add-mul r.i 1 s); so_far = told_more piece end r.i text all r.so_far text' less is }

module _ (t s : ℕ) (some : 1 ≤ s) (n : ℕ) (text all : List ℕ) (r : Reached (fetches_piece t s) (t / s + 1) n 0 s text all) where
  pub fetches_more :
      (y : ℕ) (text' : List ℕ) → n ≤ t → y ≡ height t n → text' ≡ text ++ shape_bytes (Fetches y n) →
      Reached (fetches_piece t s) (t / s + 1) (n + s) 0 s text' all
  fetches_more y text' le at_y is =
      let number : n ≡ r.i * s = omega (arith, r.number) in
      let less : r.i < t / s + 1 = omega (arith, le-div r.i t s some (omega arith)) in
      reached_more _ _ _ _ _ _ _ r text' less (is ∙ rw (at_y, number) refl)

  pub fetches_done : t < n → text ≡ all
  fetches_done less =
      let below : t / s < r.i = (div-lt_iff_lt-mul some).1 (omega (arith, r.number)) in
      told_done _ _ r.i text all r.so_far (omega arith)

module _ (m s : ℕ) (some : 1 ≤ s) (c : ℕ) (text all : List ℕ) (r : Reached (places_piece m s) (m / s) c s s text all) where
  pub places_more :
      (x : ℕ) (text' : List ℕ) → c ≤ m → x ≡ middle m c → text' ≡ text ++ shape_bytes (Places x c) → Reached (places_piece m s) (m / s) (c + s) s s text' all
  places_more x text' le at_x is =
      let less : r.i < m / s = omega (arith, le-div (r.i + 1) m s some (omega (arith, r.number, add-mul r.i 1 s))) in
      reached_more _ _ _ _ _ _ _ r text' less (is ∙ rw (at_x, r.number) refl)

  pub places_done : m < c → text ≡ all
  places_done less =
      let below : m / s < r.i + 1 = (div-lt_iff_lt-mul some).1 (omega (arith, r.number, add-mul r.i 1 s)) in
      told_done _ _ r.i text all r.so_far (omega arith)

module _ (fetches : List ℕ) (t m i : ℕ) (text : List ℕ) (before here : ℕ)
    (was : before ≡ height t (get_or fetches (i - 1) 0)) (is : here ≡ height t (get_or fetches i 0))
  where
    pub step_none : here ≡ before → text ≡ text ++ steps_piece fetches t m i
    step_none same =
        let test : eqb (height t (get_or fetches (i - 1) 0)) (height t (get_or fetches i 0)) ≡ true = grind (arith, nat_tests) in
        rw test (sym (append-nil text))

    pub step_told :
        (x : ℕ) (text' : List ℕ) → (here ≡ before → ⊥) → x ≡ edge m i → text' ≡ text ++ shape_bytes (Step x here) → text' ≡ text ++ steps_piece fetches t m i
    step_told x text' apart at_x told-it =
        let test : eqb (height t (get_or fetches (i - 1) 0)) (height t (get_or fetches i 0)) ≡ false = grind (arith, nat_tests) in
        rw test (told-it ∙ ap (λ (z : ℕ). text ++ shape_bytes (Step z here)) at_x ∙ ap (λ (z : ℕ). text ++ shape_bytes (Step (edge m i) z)) is)

-- at the first place there is no step
pub steps_first : (fetches : List ℕ) (t m : ℕ) → 1 ≤ m → told (steps_piece fetches t m) 0 m ≡ told (steps_piece fetches t m) 1 (m - 1)
unfolding told
steps_first fetches t m some =
    let more : m ≡ suc (m - 1) = omega arith in
    let same : eqb (height t (get_or fetches 0 0)) (height t (get_or fetches 0 0)) ≡ true = grind (arith, nat_tests) in
    let left : suc (m - 1) - 1 ≡ m - 1 = omega arith in
    rw more (rw (same, left) refl)
