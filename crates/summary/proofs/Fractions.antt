-- The number of places against which a promise is tightest, found place by place. Assumes nothing.
--     tight_stays, tight_moves      one place more: it is not as tight, or it is
--     tight_done                    all of them
use Rattle.std.proofs.Common.{ℕ, ◌+◌, ◌-◌, ◌*◌, ◌<◌, ◌≤◌, le_trans, le_refl, mul-le-mul_right, mul_right_comm, le_of_mul-le-mul_right, arith, below_more}
use Rattle.summary.specs.Counted.{Tightest}

-- a / b ≤ c / d ≤ e / f
fractions : (a b c d e f : ℕ) → 0 < d → a * d ≤ c * b → c * f ≤ e * d → a * f ≤ e * b
fractions a b c d e f pos p q =
    let left : a * f * d ≤ c * b * f = rw (mul_right_comm a f d) (mul-le-mul_right f p) in
    let right : c * f * b ≤ e * d * b = mul-le-mul_right b q in
    let both : a * f * d ≤ e * b * d = rw (mul_right_comm e b d) (le_trans left (rw (mul_right_comm c b f) right)) in
    le_of_mul-le-mul_right both pos

-- so it is of the first n
pub record TightOf (known : ℕ → ℕ) (k n h : ℕ) : Type 0 where
  pub least : (j : ℕ) → 1 ≤ j → j < n → known h * (k + 1 - j) ≤ known j * (k + 1 - h)
  pub largest : (j : ℕ) → h < j → j < n → known h * (k + 1 - j) < known j * (k + 1 - h)

module _ (known : ℕ → ℕ) (k : ℕ) where
  module _ (j h : ℕ) (le : h ≤ j) (within : j ≤ k) (t : TightOf known k j h) where
    pub tight_stays : known h * (k + 1 - j) < known j * (k + 1 - h) → TightOf known k (j + 1) h
    tight_stays more =
        let least : (i : ℕ) → i < j + 1 → 1 ≤ i → known h * (k + 1 - i) ≤ known i * (k + 1 - h) =
        below_more (λ i. 1 ≤ i → known h * (k + 1 - i) ≤ known i * (k + 1 - h)) j (λ i below low. t.least i low below) (λ low. omega arith) in
        let largest : (i : ℕ) → i < j + 1 → h < i → known h * (k + 1 - i) < known i * (k + 1 - h) =
        below_more (λ i. h < i → known h * (k + 1 - i) < known i * (k + 1 - h)) j (λ i below above. t.largest i above below) (λ above. more) in
        record { least = λ i low below. least i below low; largest = λ i above below. largest i below above }

    pub tight_moves : known j * (k + 1 - h) ≤ known h * (k + 1 - j) → TightOf known k (j + 1) j
    tight_moves less =
        let step : (i : ℕ) → i < j → 1 ≤ i → known j * (k + 1 - i) ≤ known i * (k + 1 - j) =
        λ i below low. fractions (known j) (k + 1 - j) (known h) (k + 1 - h) (known i) (k + 1 - i) (omega arith) less (t.least i low below) in
        let least : (i : ℕ) → i < j + 1 → 1 ≤ i → known j * (k + 1 - i) ≤ known i * (k + 1 - j) =
        below_more (λ i. 1 ≤ i → known j * (k + 1 - i) ≤ known i * (k + 1 - j)) j step (λ low. le_refl _) in
        record { least = λ i low below. least i below low; largest = λ i above below. (let z : ⊥ = omega arith in absurd z) }

  pub tight_done : (n h : ℕ) → k < n → 1 ≤ h → h ≤ k → TightOf known k n h → Tightest known k h
  tight_done n h all low high t =
      record {
        low = low;
        high = high;
        least = λ j from to. t.least j from (omega arith);
        largest = λ j above to. t.largest j above (omega arith);
      }
