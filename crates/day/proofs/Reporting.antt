-- The report's lines. Assumes nothing.
--     row_more, row_done     the lines of a row, one after the other
--     long_report            a trace that is too long has no report
--     row_room               a report's row has room for it
--     made_report            the lines of a report's row are the report
--     no_report              and where none is made, it is the number of capacities
use Rattle.std.proofs.Common.{◌≡◌, ℕ, zero, suc, ◌+◌, ◌-◌, ◌*◌, ◌<◌, ◌≤◌, Bool, true, false, ◌⊎◌, List, [], ◌∷◌, ◌++◌, length, get_or, take, drop, Some, None, sym, refl, ap, ◌∙◌, append_assoc, append-nil, arith}
use Rattle.std.proofs.lemmas.Bool.{lt-ltb, le-ltb}
use Rattle.std.proofs.lemmas.List.{drop_more, length-take}
use Rattle.std.proofs.lemmas.Bool.Decides.{nat_tests}
use Rattle.paging.specs.Belady.{belady_fetches, Fewest}
use Rattle.paging.proofs.Belady.{fewest}
use Rattle.lru_cache.specs.Rows.{first_wide}
use Rattle.lru_cache.specs.declared.refusals.Refusal.{Refusal}
use Rattle.lru_cache.specs.declared.refusals.Refusal.TheVariants.{LongTrace, BadCapacities}
use Rattle.curve.specs.Refused.{refusal}
use Rattle.curve.proofs.Reasons.{refused_capacities, refused_none}
use Rattle.belady.specs.Reported.{Reported}
use Rattle.trace.specs.Lines.{line_bytes}
use Rattle.trace.specs.declared.lines.Line.TheVariants.{Report}
use Rattle.day.specs.Said.{is_capacity}
use Rattle.day.specs.Reports.{row_lines, counts_lines, refused_line, report_of}

-- the lines of two rows side by side: what LRU fetches, and the fewest possible
unfoldable pub pair_lines : ℕ → List ℕ → List ℕ → List ℕ
pair_lines c [] known = []
pair_lines c (x ∷ house) [] = []
pair_lines c (x ∷ house) (y ∷ known) = line_bytes (Report (c + 1) x y) ++ (10 ∷ pair_lines (c + 1) house known)

no_pairs : (c : ℕ) (house known : List ℕ) → (length house ≡ 0) ⊎ (length known ≡ 0) → pair_lines c house known ≡ []
unfolding pair_lines
no_pairs c [] known end = refl
no_pairs c (x ∷ house) [] end = refl
no_pairs c (x ∷ house) (y ∷ known) end = absurd (omega arith)

module _ (house known text all : List ℕ) where
  pub row_more :
      (c x y : ℕ) (text' : List ℕ) → text' ≡ text ++ (line_bytes (Report (c + 1) x y) ++ (10 ∷ [])) →
      text ++ pair_lines c (x ∷ house) (y ∷ known) ≡ all → text' ++ pair_lines (c + 1) house known ≡ all
  unfolding pair_lines
  row_more c x y text' f was = rw (f, append_assoc, append_assoc) was

  pub row_done : (c : ℕ) → (length house ≡ 0) ⊎ (length known ≡ 0) → text ++ pair_lines c house known ≡ all → text ≡ all
  row_done c end was = let none : pair_lines c house known ≡ [] = no_pairs c house known end in sym (append-nil text) ∙ (rw none at was)

-- side by side, the two halves of a row for m capacities are its lines
pub pair_row :
    (row : List ℕ) (m c n : ℕ) (house known : List ℕ) → house ≡ take n (drop c row) → known ≡ take n (drop (m + c) row) → m + c + n ≤ length row →
    pair_lines c house known ≡ row_lines row m c n
unfolding pair_lines row_lines
pair_row row m c zero house known h k room = rw h refl
pair_row row m c (suc n) house known h k room =
    let x = drop_more row c 0 (omega arith) in
    let y = drop_more row (m + c) 0 (omega arith) in
    let rest = pair_row row m (c + 1) n (take n (drop (c + 1) row)) (take n (drop (m + (c + 1)) row)) refl refl (omega arith) in
    let past : m + c + 1 ≡ m + (c + 1) = omega arith in
    rw (h, k, x, y, past) (ap (λ (l : List ℕ). line_bytes (Report (c + 1) (get_or row c 0) (get_or row (m + c) 0)) ++ (10 ∷ l)) rest)

-- the fewest is one number
fewest_is : (c : ℕ) (trace : List ℕ) (n : ℕ) → 1 ≤ c → Fewest c trace n → n ≡ belady_fetches c [] trace
fewest_is c trace n low f =
    let b = fewest c trace low in
    let one = f.least b.schedule b.fits in
    let other = b.least f.schedule f.fits in
    omega (arith, one, other, f.fetches, b.fetches)

module _ (trace : List ℕ) (m : ℕ) (row row' : List ℕ) (made : Reported trace m row row') where
  counts : (c n : ℕ) → c + n ≤ m → row_lines row' m c n ≡ counts_lines trace c n
  unfolding row_lines counts_lines
  counts c zero le = refl
  counts c (suc n) le =
      let house = made.fetches (c + 1) (omega arith) (omega arith) in
      let known = fewest_is (c + 1) trace _ (omega arith) (made.fewest (c + 1) (omega arith) (omega arith)) in
      let at : c + 1 - 1 ≡ c = omega arith in
      let past : m + (c + 1) - 1 ≡ m + c = omega arith in
      rw (rw at at house, rw past at known, counts (c + 1) n (omega arith))

pub long_report : (trace : List ℕ) (total m : ℕ) → 4096 < total → report_of trace total m ≡ refused_line (LongTrace total)
unfolding report_of
long_report trace total m long = rw (lt-ltb 4096 total long)

-- a report of the requests that were kept, in a row as long as the largest
module _ (first : List ℕ) (total m : ℕ) (kept : length first ≡ 4096) (narrow : first_wide (take total first) ≡ None) (short : total ≤ 4096) where
  abbrev trace : List ℕ
  trace = take total first

  few : length trace ≤ 4096
  few = omega (arith, length-take total first)

  is_one : (b : Bool) → is_capacity m ≡ b → refusal trace m 8192 ≡ None → is_capacity m ≡ true
  is_one true is none = is
  is_one false is none =
      let bad : (m ≡ 0) ⊎ (4096 < m) = grind (arith, nat_tests) in
      let some = refused_capacities trace m 8192 narrow few bad in
      let z : ◌≡◌ {A = ℕ} 0 1 = cc in absurd (omega arith)

  pub row_room : refusal trace m 8192 ≡ None → 2 * m ≤ 8192
  row_room none = let fit = is_one (is_capacity m) refl none in grind (arith, nat_tests)

  pub made_report : (row row' : List ℕ) → refusal trace m 8192 ≡ None → Reported trace m row row' → row_lines row' m 0 m ≡ report_of trace total m
  unfolding report_of
  made_report row row' none made =
      let fit = is_one (is_capacity m) refl none in
      rw (le-ltb 4096 total short, fit) (counts trace m row row' made 0 m (omega arith))

  record Why (e : Refusal) : Type 0 where
    no_capacity : is_capacity m ≡ false
    reason : e ≡ BadCapacities m

  why : (b : Bool) (e : Refusal) → is_capacity m ≡ b → refusal trace m 8192 ≡ Some e → Why e
  why true e is some =
      let low : 1 ≤ m = grind (arith, nat_tests) in
      let high : m ≤ 4096 = grind (arith, nat_tests) in
      let none = refused_none trace m 8192 narrow few low high (omega arith) in
      let z : ◌≡◌ {A = ℕ} 0 1 = cc in absurd (omega arith)
  why false e is some =
      let bad : (m ≡ 0) ⊎ (4096 < m) = grind (arith, nat_tests) in
      let other = refused_capacities trace m 8192 narrow few bad in
      record { no_capacity = is; reason = cc }

  pub no_report : (e : Refusal) → refusal trace m 8192 ≡ Some e → refused_line e ≡ report_of trace total m
  unfolding report_of
  no_report e some =
      let w = why (is_capacity m) e refl some in
      rw (le-ltb 4096 total short, w.no_capacity, w.reason)
