-- The parts of the picture, each of pieces that are told one after the other. Assumes nothing.
--     line_told                   a line
--     mark_told, mark_none        the mark, and where there is none
--     drawn_told                  the whole
use Rattle.std.proofs.Common.{◌≡◌, ℕ, ◌+◌, ◌-◌, ◌/◌, ◌≤◌, true, false, ◌||◌, eqb, ltb, List, ◌++◌, get_or, sym, append_assoc, append-nil, arith}
use Rattle.std.proofs.lemmas.Bool.Decides.{nat_tests}
use Rattle.picture.specs.Drawn.{shape_bytes, label_bytes}
use Rattle.picture.specs.Pictured.{told, fetches_piece, places_piece, steps_piece, frame, line, lines, mark, drawn}
use Rattle.picture.specs.Scaled.{step, height, middle}
use Rattle.picture.proofs.Joined.{steps_first}
use Rattle.picture.specs.declared.shapes.Shape.{Shape}
use Rattle.picture.specs.declared.shapes.Shape.TheVariants.{Head, House, Known, Across, Mark, Legend, Tail}

module _ (text t₁ t₂ t₃ : List ℕ) where
  pub line_told :
      (start : Shape) (fetches : List ℕ) (t m : ℕ) → 1 ≤ m → t₁ ≡ text ++ shape_bytes start → t₂ ≡ t₁ ++ told (steps_piece fetches t m) 0 m →
      t₃ ≡ t₂ ++ shape_bytes Across → t₃ ≡ text ++ line start fetches t m
  unfolding line
  line_told start fetches t m some p q r = rw (r, q, p, steps_first fetches t m some) (simp append_assoc)

pub mark_told :
    (text text' house known : List ℕ) (t m k x above below : ℕ) → 1 ≤ k → k ≤ m → x ≡ middle m k → above ≡ height t (get_or house (k - 1) 0) →
    below ≡ height t (get_or known (k - 1) 0) →
    text' ≡ text ++ (shape_bytes (Mark x above below) ++ label_bytes (record { x = x; places = k; house = get_or house (k - 1) 0; known = get_or known (k - 1) 0 })) →
    text' ≡ text ++ mark house known t m k
unfolding mark
mark_told text text' house known t m k x above below some most at_x high low is =
    let test : (eqb k 0 || ltb m k) ≡ false = grind (arith, nat_tests) in
    rw test (rw (at_x, high, low) at is)

pub mark_none : (text house known : List ℕ) (t m k : ℕ) → (eqb k 0 || ltb m k) ≡ true → text ≡ text ++ mark house known t m k
unfolding mark
mark_none text house known t m k test = rw test (sym (append-nil text))

pub drawn_told :
    (text t₁ t₂ t₃ t₄ t₅ t₆ t₇ house known : List ℕ) (t s m k above below : ℕ) → t₁ ≡ text ++ shape_bytes Head →
    t₂ ≡ t₁ ++ told (fetches_piece t s) 0 (t / s + 1) → t₃ ≡ t₂ ++ told (places_piece m (step ((m + 1) / 2))) 0 (m / step ((m + 1) / 2)) →
    above ≡ height t (get_or house 0 0) → t₄ ≡ t₃ ++ line (House above) house t m → below ≡ height t (get_or known 0 0) →
    t₅ ≡ t₄ ++ line (Known below) known t m → t₆ ≡ t₅ ++ mark house known t m k → t₇ ≡ t₆ ++ (shape_bytes Legend ++ shape_bytes Tail) →
    t₇ ≡ text ++ drawn house known t s m k
unfolding drawn frame lines
drawn_told text t₁ t₂ t₃ t₄ t₅ t₆ t₇ house known t s m k above below head fetches places high one low other marked ends =
    rw (ends, marked, other, low, one, high, places, fetches, head) (simp append_assoc)
