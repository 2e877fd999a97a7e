-- A row that is looked through, as std says it.
use Rattle.std.proofs.Common.{◌≡◌, ℕ, ◌<◌, Bool, true, false, eqb, ltb, cond, List, [], ◌∷◌, length, Option, Some, None, MatchOption, refl, ap, arith}
use Rattle.std.specs.List.{list_any, position, position_or_len}
use Rattle.std.proofs.lemmas.Bool.Decides.{nat_tests}
use Rattle.std.proofs.lemmas.List.Recursion.{is_position_or_len}
use Rattle.paging.specs.Lists.{has, place}
use Rattle.paging.proofs.Places.{has_place}

pub has_any : (page : ℕ) (row : List ℕ) → has row page ≡ list_any (λ x. eqb x page) row
unfolding has
has_any page [] = refl
has_any page (x ∷ row) = rw (has_any page row) refl

pub place_position : (page : ℕ) (row : List ℕ) → place page row ≡ position_or_len (λ x. eqb x page) row
unfolding place
place_position page = is_position_or_len (place page) (λ x. eqb x page) refl (λ x row. ap (cond (eqb x page) 0) (omega arith))

abbrev pub Finds : ℕ → List ℕ → Option ℕ → Type 0
Finds page row found = MatchOption found (has row page ≡ false) (λ at. (has row page ≡ true) × (at ≡ place page row) × (at < length row))

pub finds : (page : ℕ) (row : List ℕ) → Finds page row (position (λ x. eqb x page) row)
finds page row = rw (← place_position page row) (go (ltb (place page row) (length row)) refl)
  where
    go : (b : Bool) → ltb (place page row) (length row) ≡ b → Finds page row (cond b (Some (place page row)) None)
    go true e = let h = has_place page row in grind (arith, nat_tests)
    go false e = let h = has_place page row in grind (arith, nat_tests)
