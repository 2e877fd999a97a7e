-- The bytes of a piece. Assumes nothing.
--     all_decoded     a row with room for every request has them all in front
--     requests_small  what bytes request are pages
use Rattle.std.proofs.Common.{◌≡◌, ℕ, suc, ◌/◌, ◌^◌, ◌<◌, ◌≤◌, min, List, [], ◌∷◌, ◌++◌, length, get_or, take, drop, None, refl, ◌∙◌, arith, w8, Fits}
use Rattle.std.proofs.lemmas.List.{take_at, take_all, length-take-le}
use Rattle.std.proofs.lemmas.Bool.{lt-leb}
use Rattle.lru_cache.specs.Rows.{first_wide}
use Rattle.trace.specs.Requests.{page_of, requests_in}
use Rattle.trace.proofs.Groups.{length_requests}

pub all_decoded :
    (bs out row : List ℕ) (r : ℕ) → r ≡ min (length bs / 4) (length out) → row ≡ take r (requests_in bs) ++ drop r out → length bs / 4 ≤ length out →
    take r row ≡ requests_in bs
all_decoded bs out row r e f room =
    let n : length (requests_in bs) ≡ length bs / 4 = length_requests bs in
    let short : r ≤ length (requests_in bs) = omega arith in
    let long : length (requests_in bs) ≤ r = omega arith in
    rw f (take_at (take r (requests_in bs)) (drop r out) r (length-take-le r (requests_in bs) short) ∙ take_all r (requests_in bs) long)

-- bytes request pages
pub requests_small : (bs : List ℕ) → ((i : ℕ) → Fits w8 (get_or bs i 0)) → first_wide (requests_in bs) ≡ None
unfolding requests_in first_wide
requests_small [] byte = refl
requests_small (a ∷ []) byte = refl
requests_small (a ∷ b ∷ []) byte = refl
requests_small (a ∷ b ∷ c ∷ []) byte = refl
requests_small (a ∷ b ∷ c ∷ d ∷ rest) byte =
    let small : page_of a b c d < 2 ^ 32 = omega (arith, (byte 0).fits, (byte 1).fits, (byte 2).fits, (byte 3).fits) in
    simp (lt-leb (2 ^ 32) (page_of a b c d) small) (requests_small rest (λ i. byte (suc (suc (suc (suc i))))))
