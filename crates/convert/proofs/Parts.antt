-- A piece of text packed, and a piece of bytes printed. Assumes nothing.
--     named_packed   the pages that are in front are packed, all of them
--     piece_decoded  the requests of a piece, as many as there is room for
use Rattle.std.proofs.Common.{◌≡◌, ℕ, ◌*◌, ◌/◌, ◌≤◌, min, List, ◌++◌, length, take, drop, sym, ap, ◌∙◌, arith}
use Rattle.std.proofs.lemmas.List.{length-take-le, take_all, take_at, take_min}
use Rattle.trace.specs.Requests.{requests_in}
use Rattle.trace.proofs.Groups.{length_requests}
use Rattle.convert.specs.Days.{bytes_of}
use Rattle.convert.proofs.Packed.{length_bytes_of}

-- the first n bytes of the text name named n
pub named_packed :
    (out out' pages behind : List ℕ) (named : ℕ → List ℕ) (n m count r : ℕ) → n ≡ m → pages ≡ named n ++ behind → count ≡ length (named n) →
    count ≤ length out / 4 → r ≡ 4 * min (length (take count pages)) (length out / 4) → out' ≡ take r (bytes_of (take count pages)) ++ drop r out →
    out' ≡ bytes_of (named m) ++ drop r out
named_packed out out' pages behind named n m count r n-is read count-is few r-is packed =
    let front : take count pages ≡ named n = rw read (take_at (named n) behind count (sym count-is)) in
    let long : length (take count pages) ≡ length (named n) = ap length front in
    let enough : length (bytes_of (named n)) ≤ r = omega (arith, length_bytes_of (named n)) in
    let whole = rw front at packed in
    rw (← n-is) (whole ∙ ap (λ (l : List ℕ). l ++ drop r out) (take_all r (bytes_of (named n)) enough))

pub piece_decoded :
    (bs out row : List ℕ) (r : ℕ) → length out ≡ 16384 → r ≡ min (length bs / 4) (length out) → row ≡ take r (requests_in bs) ++ drop r out →
    take r row ≡ take 16384 (requests_in bs)
piece_decoded bs out row r long is read =
    let n : length (requests_in bs) ≡ length bs / 4 = length_requests bs in
    let short : r ≤ length (requests_in bs) = omega arith in
    let same : r ≡ min 16384 (length (requests_in bs)) = omega arith in
    rw read (take_at (take r (requests_in bs)) (drop r out) r (length-take-le r (requests_in bs) short) ∙ rw same (take_min 16384 (requests_in bs)))
