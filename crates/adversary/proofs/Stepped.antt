-- A whole step: what is aimed at, what is shown stored, the request entered.
use Rattle.std.proofs.Common.{◌≡◌, ℕ, ◌+◌, ◌*◌, ◌<◌, ◌≤◌, List, length, take, drop, sym, ap, ◌∙◌, arith}
use Rattle.std.proofs.lemmas.List.{take-take, drop-take, drop-drop}
use Rattle.std.proofs.lemmas.Bool.{lt-ltb}
use Rattle.paging.specs.Stepwise.{Position, moved}
use Rattle.adversary.specs.declared.challenge.Challenge.{Challenge}
use Rattle.adversary.specs.Moves.{Moved}
use Rattle.adversary.specs.Places.{position_in}
use Rattle.adversary.specs.Steps.{Aimed, Stepped}
use Rattle.adversary.proofs.Chosen.{aim_new}
use Rattle.adversary.proofs.Lengths.{length_listed}
use Rattle.adversary.proofs.Entered.{place}

-- the lists before 2 * k + 1 are the same where the rows are
module _ (k : ℕ) (a b : List ℕ) (same : take (2 * k + 1) a ≡ take (2 * k + 1) b) where
  front_same : (n : ℕ) → n ≤ 2 * k + 1 → take n a ≡ take n b
  front_same n le = sym (take-take n (2 * k + 1) a le) ∙ ap (take n) same ∙ take-take n (2 * k + 1) b le

  middle : (row : List ℕ) → drop (k + 1) (take (2 * k + 1) row) ≡ take k (drop (k + 1) row)
  middle row = let e : k + 1 + k ≡ 2 * k + 1 = omega arith in rw e at (drop-take (k + 1) k row)

  middle_same : (n : ℕ) → n ≤ k → take n (drop (k + 1) a) ≡ take n (drop (k + 1) b)
  middle_same n le =
      sym (take-take n k (drop (k + 1) a) le) ∙ ap (take n) (sym (middle a) ∙ ap (drop (k + 1)) same ∙ middle b)
      ∙ take-take n k (drop (k + 1) b) le

pub stored_position : (c : Challenge) (a b : List ℕ) → take (2 * c.k + 1) a ≡ take (2 * c.k + 1) b → position_in c a ≡ position_in c b
stored_position c a b same =
    let f = c.full in
    let e = c.each in
    let g = c.few in
    let w = c.within in
    let l = front_same c.k a b same c.listed (omega arith) in
    let m = middle_same c.k a b same c.noted (omega arith) in
    ap (λ (xs : List ℕ). place c.next xs (take c.noted (drop (c.k + 1) a)) c.picks) l
    ∙ ap (λ (xs : List ℕ). place c.next (take c.listed b) xs c.picks) m

beyond_further : (k : ℕ) (a b : List ℕ) → drop (2 * k + 1) a ≡ drop (2 * k + 1) b → drop (3 * k + 1) a ≡ drop (3 * k + 1) b
beyond_further k a b same =
    let e : 2 * k + 1 + k ≡ 3 * k + 1 = omega arith in
    let p = sym (drop-drop k (2 * k + 1) a) ∙ ap (drop k) same ∙ drop-drop k (2 * k + 1) b in
    rw e at p

module _ (c : Challenge) (row shown : List ℕ) (page : ℕ) (aimed : Aimed c row shown page) where
  pub aimed_new : 3 * c.k + 1 ≤ length row → c.listed ≤ c.k → (page ≡ c.next) × (c.next < 4294967296)
  aimed_new long some =
      let l = length_listed c row long in
      let left = aimed.left some in
      (aimed.page_is ∙ sym (aim_new c.k (position_in c row) shown (omega arith) left).1, omega arith)

  pub stepped :
      (row₁ : List ℕ) (c' : Challenge) (row' : List ℕ) → take (2 * c.k + 1) row₁ ≡ take (2 * c.k + 1) row →
      take (length shown) (drop (2 * c.k + 1) row₁) ≡ shown → drop (3 * c.k + 1) row₁ ≡ drop (3 * c.k + 1) row →
      Moved c row₁ page (length shown) c' row' → Stepped c row shown c' row'
  stepped row₁ c' row' front at beyond m =
      let same = stored_position c row₁ row front in
      let asked = lt-ltb 1 c'.next m.begun in
      record {
        none = aimed.none;
        page_is = m.last_is ∙ aimed.page_is;
        position = m.position ∙ ap (λ (p : Position). moved c.k c.h p page) same ∙ ap (moved c.k c.h (position_in c row)) (sym m.last_is);
        asked = rw asked;
        shown_is = rw (m.shown_is, m.k_is, m.rest) at;
        k_is = m.k_is;
        h_is = m.h_is;
        beyond = beyond_further c.k row' row₁ m.rest ∙ beyond;
      }
