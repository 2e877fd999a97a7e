-- A list stored place by place into another, as far as that goes.
--     stored i xs t     t with the elements of xs at i, i + 1 ..
use Rattle.std.proofs.Common.{◌≡◌, ℕ, zero, suc, ◌+◌, ◌≤◌, List, [], ◌∷◌, ◌++◌, length, take, drop, set, sym, refl, ap, ◌∙◌, append_assoc, arith}
use Rattle.std.proofs.lemmas.List.{set_at, set_past, length_push, length-append}

unfoldable pub stored : {X : Type 0} → ℕ → List X → List X → List X
stored i [] t = t
stored i (x ∷ xs) t = stored (i + 1) xs (set t i x)

take_none : {X : Type 0} (n : ℕ) → take {A = X} n [] ≡ []
take_none zero = refl
take_none (suc n) = refl

stored_past : {X : Type 0} (i : ℕ) (xs t : List X) → length t ≤ i → stored i xs t ≡ t
unfolding stored
stored_past i [] t past = refl
stored_past i (x ∷ xs) t past = rw (set_past t i x past) (stored_past (i + 1) xs t (omega arith))

stored_from : {X : Type 0} (p xs t : List X) (i : ℕ) → length p ≡ i → stored i xs (p ++ t) ≡ p ++ (take (length t) xs ++ drop (length xs) t)
unfolding stored
stored_from p [] t i long = rw take_none
stored_from p (x ∷ xs) [] i long =
    let l = length-append p [] in
    let e = set_past (p ++ []) i x (omega arith) in
    rw e (stored_past (i + 1) xs (p ++ []) (omega arith))
stored_from p (x ∷ xs) (y ∷ t) i long =
    let e : set (p ++ y ∷ t) i x ≡ (p ++ x ∷ []) ++ t = set_at p y t x i long ∙ sym (append_assoc p (x ∷ []) t) in
    let r = stored_from (p ++ x ∷ []) xs t (i + 1) (length_push p x ∙ ap (λ (n : ℕ). n + 1) long) in
    rw e (r ∙ append_assoc p (x ∷ []) (take (length t) xs ++ drop (length xs) t))

pub stored_all : {X : Type 0} (xs t : List X) → stored 0 xs t ≡ take (length t) xs ++ drop (length xs) t
stored_all xs t = stored_from [] xs t 0 refl
