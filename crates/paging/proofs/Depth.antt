-- How deep a page lies in an LRU cache, and how depths change at a request: the potential behind the competitive bound.
--     depth k cache x        x's place among the first k of cache, counted from 0, and k where it is not there
--     closer k cache d x     1 where x lies less deep than d, else 0
use Rattle.std.proofs.Common.{◌≡◌, ℕ, zero, suc, ◌+◌, ◌≤◌, true, false, cond, eqb, ltb, List, [], ◌∷◌, length, take, refl, arith}
use Rattle.std.proofs.lemmas.Bool.Decides.{nat_tests}
use Rattle.paging.specs.Lists.{has, without, distinct}
use Rattle.paging.specs.Lru.{lru}
use Rattle.paging.proofs.Weights.{total, total_le, total_apart}

unfoldable pub depth : ℕ → List ℕ → ℕ → ℕ
depth zero cache x = 0
depth (suc k) [] x = suc (depth k [] x)
depth (suc k) (y ∷ ys) x = cond (eqb y x) 0 (suc (depth k ys x))

unfoldable pub closer : ℕ → List ℕ → ℕ → ℕ → ℕ
closer k cache d x = cond (ltb (depth k cache x) d) 1 0

pub depth_le : (k : ℕ) (cache : List ℕ) (x : ℕ) → depth k cache x ≤ k
unfolding depth
depth_le zero cache x = omega arith
depth_le (suc k) [] x = omega (arith, depth_le k [] x)
depth_le (suc k) (y ∷ ys) x = let i = depth_le k ys x in grind (arith, nat_tests)

pub depth_absent : (k : ℕ) (cache : List ℕ) (x : ℕ) → has cache x ≡ false → depth k cache x ≡ k
unfolding depth has
depth_absent zero cache x h = refl
depth_absent (suc k) [] x h = omega (arith, depth_absent k [] x h)
depth_absent (suc k) (y ∷ ys) x h = let i = depth_absent k ys x in grind (arith, nat_tests)

pub depth_take : (k : ℕ) (cache : List ℕ) (x : ℕ) → depth k (take k cache) x ≡ depth k cache x
unfolding depth
depth_take zero cache x = refl
depth_take (suc k) [] x = refl
depth_take (suc k) (y ∷ ys) x = let i = depth_take k ys x in grind (arith, nat_tests)

-- a page that was less deep than the one requested lies one deeper afterwards, and no other moves
pub depth_without :
    (k p : ℕ) (cache : List ℕ) (x : ℕ) → (p ≡ x → ⊥) →
    suc (depth k (without p cache) x) ≡ depth (suc k) cache x + closer (suc k) cache (depth (suc k) cache p) x
unfolding depth has without closer
depth_without k p [] x n = let i = depth_absent k [] x in let j = depth_absent k [] p in grind (arith, nat_tests)
depth_without zero p (y ∷ ys) x n = grind (arith, nat_tests)
depth_without (suc k) p (y ∷ ys) x n = let i = depth_without k p ys x in grind (arith, nat_tests)

pub depth_lru :
    (k p : ℕ) (cache : List ℕ) (x : ℕ) → (p ≡ x → ⊥) →
    depth k (lru k cache p) x ≤ depth k cache x + closer k cache (depth k cache p) x
unfolding depth lru
depth_lru zero p cache x n = omega arith
depth_lru (suc k) p cache x n =
    let i = depth_take (suc k) (p ∷ without p cache) x in
    let j = depth_without k p cache x in
    grind (arith, nat_tests)

pub depth_first : (k p : ℕ) (cache : List ℕ) → depth k (lru k cache p) p ≡ 0
unfolding depth lru
depth_first zero p cache = refl
depth_first (suc k) p cache = grind (arith, nat_tests)

-- pigeonhole: of different pages at most d lie less deep than d
pub closer_few : (k : ℕ) (cache : List ℕ) (d : ℕ) (xs : List ℕ) → distinct xs ≡ true → d ≤ k → total (closer k cache d) xs ≤ d
unfolding depth closer
closer_few k cache zero xs u h = let i = total_le (closer k cache zero) 0 xs (λ x. grind (arith, nat_tests)) in omega arith
closer_few zero cache (suc d) xs u h = omega arith
closer_few (suc k) [] (suc d) xs u h =
    let i = closer_few k [] d xs in
    let j = total_apart (closer (suc k) [] (suc d)) (closer k [] d) 0 0 0 xs u (λ x _. grind (arith, nat_tests)) (grind (arith, nat_tests)) in
    grind (arith, nat_tests)
closer_few (suc k) (y ∷ ys) (suc d) xs u h =
    let i = closer_few k ys d xs in
    let j = total_apart (closer (suc k) (y ∷ ys) (suc d)) (closer k ys d) y 0 1 xs u (λ x n. grind (arith, nat_tests)) (grind (arith, nat_tests)) in
    grind (arith, nat_tests)

-- the page p itself does not lie less deep than p
pub closer_others :
    (k : ℕ) (cache : List ℕ) (p : ℕ) (xs : List ℕ) → distinct xs ≡ true → has xs p ≡ true →
    total (closer k cache (depth k cache p)) xs + 1 ≤ length xs
unfolding closer
closer_others k cache p xs u h =
    let i = total_apart (closer k cache (depth k cache p)) (λ _. 1) p 1 0 xs u (λ x _. grind (arith, nat_tests)) (grind (arith, nat_tests)) in
    let j = total_le (λ _. 1) 1 xs (λ _. omega arith) in
    grind (arith, nat_tests)
