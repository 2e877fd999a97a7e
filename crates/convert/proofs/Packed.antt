-- The bytes of pages in a row. Assumes nothing.
--     length_bytes_of     four for each page
--     packed_more         the bytes of one page more
use Rattle.std.proofs.Common.{◌≡◌, ℕ, zero, suc, ◌+◌, ◌*◌, ◌<◌, ◌≤◌, List, [], ◌∷◌, ◌++◌, length, get_or, take, drop, sym, refl, ap, ◌∙◌, append_assoc, arith}
use Rattle.std.proofs.lemmas.List.{take_at, drop_at, drop-drop, length-take-le}
use Rattle.convert.specs.Days.{page_bytes, bytes_of}

pub length_bytes_of : (pages : List ℕ) → length (bytes_of pages) ≡ 4 * length pages
unfolding bytes_of
length_bytes_of [] = refl
length_bytes_of (page ∷ pages) = omega (arith, length_bytes_of pages)

-- the front of the bytes with one page more
front_more : (pages : List ℕ) (i : ℕ) → i < length pages → take (4 * (i + 1)) (bytes_of pages) ≡ take (4 * i) (bytes_of pages) ++ page_bytes (get_or pages i 0)
unfolding bytes_of
front_more [] i h = absurd (omega arith)
front_more (page ∷ pages) zero h = refl
front_more (page ∷ pages) (suc i) h =
    let e : 4 * (suc i + 1) ≡ suc (suc (suc (suc (4 * (i + 1))))) = omega arith in
    let f : 4 * suc i ≡ suc (suc (suc (suc (4 * i)))) = omega arith in
    rw (e, f, front_more pages i (omega arith)) refl

pub packed_more :
    (pages out now now' : List ℕ) (i page : ℕ) → i < length pages → page ≡ get_or pages i 0 → now ≡ take (4 * i) (bytes_of pages) ++ drop (4 * i) out →
    now' ≡ take (4 * i) now ++ (page_bytes page ++ drop (4 * i + 4) now) →
    now' ≡ take (4 * (i + 1)) (bytes_of pages) ++ drop (4 * (i + 1)) out
packed_more pages out now now' i page within is so_far put =
    let enough : 4 * i ≤ length (bytes_of pages) = omega (arith, length_bytes_of pages) in
    let n = length-take-le (4 * i) (bytes_of pages) enough in
    let front : take (4 * i) now ≡ take (4 * i) (bytes_of pages) = rw so_far (take_at _ (drop (4 * i) out) _ n) in
    let behind : drop (4 * i) now ≡ drop (4 * i) out = rw so_far (drop_at _ (drop (4 * i) out) _ n) in
    let rest : drop (4 * i + 4) now ≡ drop (4 * i + 4) out = sym (drop-drop 4 (4 * i) now) ∙ ap (drop 4) behind ∙ drop-drop 4 (4 * i) out in
    let next : 4 * (i + 1) ≡ 4 * i + 4 = omega arith in
    put ∙ rw (front, rest, is, front_more pages i within, append_assoc, next)
