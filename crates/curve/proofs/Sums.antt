-- One pass over the hits at each place: what is left of the requests takes their place.
--     Settled hits requests i left row     so much has been done after the first i of hits
use Rattle.std.proofs.Common.{◌≡◌, ℕ, ◌+◌, ◌-◌, ◌<◌, ◌≤◌, List, length, get_or, take, sum, arith}
use Rattle.std.proofs.lemmas.List.Sums.{sum_by_more, sum_by-take-le}

pub record Settled (hits : List ℕ) (requests i left : ℕ) (row : List ℕ) : Type 0 where
  pub rest : left + sum (take i hits) ≡ requests
  pub same : (k : ℕ) → i ≤ k → get_or row k 0 ≡ get_or hits k 0
  pub done : (c : ℕ) → 1 ≤ c → c ≤ i → get_or row (c - 1) 0 + sum (take c hits) ≡ requests

-- what is taken off is no more than what is left
pub settled_fits : (hits : List ℕ) (requests i left : ℕ) (row : List ℕ) → Settled hits requests i left row → sum hits ≤ requests → i < length hits → get_or row i 0 ≤ left
settled_fits hits requests i left row s enough lt =
    let more = sum_by_more (λ (n : ℕ). n) hits i 0 lt in
    let most = sum_by-take-le (λ (n : ℕ). n) hits (i + 1) in
    let here = s.same i (omega arith) in
    let rest = s.rest in
    omega (arith, more)
