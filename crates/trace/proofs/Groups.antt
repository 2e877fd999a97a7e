-- Bytes in groups of four. Assumes nothing.
--     length_requests       there is a request for each whole group
--     request_at            the request at i is that of the group at i
--     filled_more           one more request written to the front of a row
--     left_over_is          what is left over is the end of the bytes, after the last whole group
--     requests_in_pieces    decoding two pieces, the second with what the first left over in front, is decoding the whole
--     left_over_in_pieces   and so for what is left over at the end
use Rattle.std.proofs.Common.{◌≡◌, ℕ, zero, suc, ◌+◌, ◌-◌, ◌/◌, ◌%◌, ◌<◌, ◌≤◌, List, [], ◌∷◌, ◌++◌, length, get_or, take, drop, set, refl, ap, append_assoc, arith}
use Rattle.std.proofs.lemmas.List.{take_more, drop_more, set_at, length-take-le}
use Rattle.std.specs.Int.{w32, from_le_bytes}
use Rattle.std.specs.Simd.{first_chunks}
use Rattle.trace.specs.Requests.{page_of, requests_in, left_over}

pub length_requests : (bs : List ℕ) → length (requests_in bs) ≡ length bs / 4
unfolding requests_in
length_requests [] = refl
length_requests (a ∷ []) = refl
length_requests (a ∷ b ∷ []) = refl
length_requests (a ∷ b ∷ c ∷ []) = refl
length_requests (a ∷ b ∷ c ∷ d ∷ rest) = omega (arith, length_requests rest)

pub request_at : (bs : List ℕ) (k i : ℕ) → k ≡ length bs / 4 → i < k → get_or (requests_in bs) i 0 ≡ from_le_bytes w32 (get_or (first_chunks 4 k bs) i [])
unfolding requests_in
request_at [] k i e h = absurd (omega arith)
request_at (a ∷ []) k i e h = absurd (omega arith)
request_at (a ∷ b ∷ []) k i e h = absurd (omega arith)
request_at (a ∷ b ∷ c ∷ []) k i e h = absurd (omega arith)
request_at (a ∷ b ∷ c ∷ d ∷ rest) zero i e h = absurd (omega arith)
request_at (a ∷ b ∷ c ∷ d ∷ rest) (suc k) zero e h = omega arith
request_at (a ∷ b ∷ c ∷ d ∷ rest) (suc k) (suc i) e h = request_at rest k i (omega arith) (omega arith)

pub filled_more : (rs out : List ℕ) (i : ℕ) → i < length rs → i < length out → set (take i rs ++ drop i out) i (get_or rs i 0) ≡ take (i + 1) rs ++ drop (i + 1) out
filled_more rs out i h g =
    let short : i ≤ length rs = omega arith in
    rw (drop_more out i 0, take_more rs i 0, append_assoc) (set_at (take i rs) (get_or out i 0) (drop (i + 1) out) (get_or rs i 0) i (length-take-le i rs short))

pub left_over_is : (bs : List ℕ) → left_over bs ≡ drop (length bs - length bs % 4) bs
unfolding left_over
left_over_is [] = refl
left_over_is (a ∷ []) = refl
left_over_is (a ∷ b ∷ []) = refl
left_over_is (a ∷ b ∷ c ∷ []) = refl
left_over_is (a ∷ b ∷ c ∷ d ∷ rest) =
    let e : suc (suc (suc (suc (length rest)))) - suc (suc (suc (suc (length rest)))) % 4 ≡ suc (suc (suc (suc (length rest - length rest % 4)))) = omega arith in
    rw e (left_over_is rest)

pub requests_in_pieces : (xs ys : List ℕ) → requests_in (xs ++ ys) ≡ requests_in xs ++ requests_in (left_over xs ++ ys)
unfolding requests_in left_over
requests_in_pieces [] ys = refl
requests_in_pieces (a ∷ []) ys = refl
requests_in_pieces (a ∷ b ∷ []) ys = refl
requests_in_pieces (a ∷ b ∷ c ∷ []) ys = refl
requests_in_pieces (a ∷ b ∷ c ∷ d ∷ rest) ys = ap (λ (l : List ℕ). page_of a b c d ∷ l) (requests_in_pieces rest ys)

pub left_over_in_pieces : (xs ys : List ℕ) → left_over (xs ++ ys) ≡ left_over (left_over xs ++ ys)
unfolding left_over
left_over_in_pieces [] ys = refl
left_over_in_pieces (a ∷ []) ys = refl
left_over_in_pieces (a ∷ b ∷ []) ys = refl
left_over_in_pieces (a ∷ b ∷ c ∷ []) ys = refl
left_over_in_pieces (a ∷ b ∷ c ∷ d ∷ rest) ys = left_over_in_pieces rest ys
