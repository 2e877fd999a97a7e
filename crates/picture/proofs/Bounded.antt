-- Where numbers stand, and that it is on the picture. Assumes nothing.
--     height_fits     no height is above the picture
--     top_is          the number at the top, as it is worked out
use Rattle.std.proofs.Common.{◌≡◌, ℕ, suc, ◌+◌, ◌-◌, ◌*◌, ◌/◌, ◌%◌, ◌<◌, ◌≤◌, max, mod-lt, mul_comm, ⊎_elim, ◌∙◌, arith}
use Rattle.std.proofs.Math.Nat.{div-add-mod, mod_self, mod-eq_of_lt, mul-add-mod_self_left, mul-suc}
use Rattle.std.proofs.lemmas.Bool.{cases_lt}
use native.Mathlib.Nat.{div-le_of_le-mul}
use Rattle.picture.specs.Scaled.{step, top}

pub height_fits : (t n : ℕ) → n ≤ t → 330 * n / t ≤ 420
height_fits t n le =
    let less : 330 * n ≤ 330 * t = omega arith in
    let most : 330 * n / t ≤ 330 = div-le_of_le-mul t (rw (mul_comm t 330) less) in
    omega arith

-- std's next multiple, as the definition has it
next_is : (x y : ℕ) → 1 ≤ y → x + (y - x % y) % y ≡ (x + (y - 1)) - (x + (y - 1)) % y
next_is x y some =
    let whole : y * (x / y) + x % y ≡ x = div-add-mod x y in
    let rest : x % y < y = mod-lt _ some in
    ⊎_elim
    (λ (h : x % y < 1).
    let sum : x + (y - 1) ≡ y * (x / y) + (y - 1) = omega arith in
    let left : (x + (y - 1)) % y ≡ y - 1 = rw (sum, mul-add-mod_self_left y (x / y) (y - 1)) (mod-eq_of_lt (omega arith)) in
    let none : y - x % y ≡ y = omega arith in
    rw (none, mod_self y) (omega arith))
    (λ (h : 1 ≤ x % y).
    let next : y * suc (x / y) ≡ y * (x / y) + y = mul-suc y (x / y) in
    let sum : x + (y - 1) ≡ y * suc (x / y) + (x % y - 1) = omega arith in
    let left : (x + (y - 1)) % y ≡ x % y - 1 = rw (sum, mul-add-mod_self_left y (suc (x / y)) (x % y - 1)) (mod-eq_of_lt (omega arith)) in
    let right : (y - x % y) % y ≡ y - x % y = mod-eq_of_lt (omega arith) in
    omega arith)
    (cases_lt (x % y) 1)

pub top_is : (n s a : ℕ) → 1 ≤ s → s ≡ step n → a ≡ max n 1 → a + (s - a % s) % s ≡ top n
unfolding top
top_is n s a low apart some = next_is a s low ∙ rw (apart, some)
