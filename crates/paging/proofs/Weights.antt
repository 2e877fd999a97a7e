-- Laws of a weight summed over a list of pages: over part of a list, and with another weight beside it.
--     total f xs     the sum of f x over the x of xs
use Rattle.std.proofs.Common.{◌≡◌, ℕ, ◌+◌, ◌*◌, ◌≤◌, true, cond, List, [], ◌∷◌, length, refl, arith}
use Rattle.std.proofs.lemmas.Bool.Decides.{nat_tests}
use Rattle.paging.specs.Lists.{has, without, distinct}
use Rattle.paging.proofs.Lists.{Within, has_without}

unfoldable pub total : (ℕ → ℕ) → List ℕ → ℕ
total f [] = 0
total f (x ∷ xs) = f x + total f xs

pub total_add : (f g : ℕ → ℕ) (xs : List ℕ) → total (λ x. f x + g x) xs ≡ total f xs + total g xs
unfolding total
total_add f g [] = refl
total_add f g (x ∷ xs) = omega (arith, total_add f g xs)

pub total_le : (f : ℕ → ℕ) (m : ℕ) (xs : List ℕ) → ((x : ℕ) → f x ≤ m) → total f xs ≤ m * length xs
unfolding total
total_le f m [] h = omega arith
total_le f m (x ∷ xs) h = omega (arith, total_le f m xs h, h x)

pub total_without : (f : ℕ → ℕ) (x : ℕ) (xs : List ℕ) → has xs x ≡ true → total f xs ≡ f x + total f (without x xs)
unfolding total has without
total_without f x [] h = grind (arith, nat_tests)
total_without f x (z ∷ xs) h = let i = total_without f x xs in grind (arith, nat_tests)

pub total_within : (f : ℕ → ℕ) (xs ys : List ℕ) → distinct xs ≡ true → Within xs ys → total f xs ≤ total f ys
unfolding total has distinct
total_within f [] ys d w = omega arith
total_within f (x ∷ xs) ys d w =
    let rest : Within xs (without x ys) = λ z h. let a = w z in let b = has_without x ys z in grind (arith, nat_tests) in
    let i = total_within f xs (without x ys) in
    let j = total_without f x ys in
    let m = w x in
    grind (arith, nat_tests)

-- f may exceed g at the one page p, by d; or fall short of it there, by c
pub total_apart :
    (f g : ℕ → ℕ) (p c d : ℕ) (xs : List ℕ) → distinct xs ≡ true → ((x : ℕ) → (p ≡ x → ⊥) → f x ≤ g x) → f p + c ≤ g p + d →
    total f xs + cond (has xs p) c 0 ≤ total g xs + cond (has xs p) d 0
unfolding total has distinct
total_apart f g p c d [] u w e = omega arith
total_apart f g p c d (x ∷ xs) u w e =
    let i = total_apart f g p c d xs in
    let j = w x in
    grind (arith, nat_tests)
