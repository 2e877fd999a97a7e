-- The last two digits of a number, as they are printed. Assumes nothing.
use Rattle.std.proofs.Common.{◌≡◌, ℕ, ◌<◌, ◌≤◌, ◌⊎◌, ◌+◌, ◌/◌, ◌%◌, ◌-◌, ◌^◌, List, [], ◌∷◌, ◌++◌, false, refl, ⊎_elim, arith}
use Rattle.std.proofs.lemmas.Fmt.{decimal_digit, decimal_step}
use Rattle.std.specs.Fmt.{decimal, padded_integral, format_spec, char_count}

below_or : (a b : ℕ) → (a < b) ⊎ (b ≤ a)
below_or a b = grind (arith)

-- `{:02}`
abbrev padded : List ℕ → List ℕ
padded digits = padded_integral (format_spec 32 0 4 2 (2 ^ 64 - 1)) false [] digits

one : (x : ℕ) → padded (x ∷ []) ≡ 48 ∷ (x ∷ [])
unfolding padded_integral char_count
one x = refl

two : (x y : ℕ) → padded (x ∷ (y ∷ [])) ≡ x ∷ (y ∷ [])
unfolding padded_integral char_count
two x y = refl

pub two_digits : (n : ℕ) → padded_integral (format_spec 32 0 4 2 (2 ^ 64 - 1)) false [] (decimal (n % 100)) ≡ decimal (n / 10 % 10) ++ decimal (n % 10)
two_digits n =
    let zero_is : decimal 0 ≡ 48 ∷ [] = decimal_digit 0 (omega arith) in
    let last : decimal (n % 10) ≡ (48 + n % 10) ∷ [] = decimal_digit (n % 10) (omega arith) in
    let first : decimal (n / 10 % 10) ≡ (48 + n / 10 % 10) ∷ [] = decimal_digit (n / 10 % 10) (omega arith) in
    ⊎_elim
    (λ small.
    let high : n / 10 % 10 ≡ 0 = omega arith in
    let low : n % 100 ≡ n % 10 = omega arith in
    rw (low, last, first, high) (one (48 + n % 10)))
    (λ large.
    let below : n % 100 < 2 ^ 64 = omega arith in
    let high : n % 100 / 10 ≡ n / 10 % 10 = omega arith in
    let low : n % 100 % 10 ≡ n % 10 = omega arith in
    rw (decimal_step (n % 100) large below, high, low, last, first) (two (48 + n / 10 % 10) (48 + n % 10)))
    (below_or (n % 100) 10)
