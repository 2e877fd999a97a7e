-- A report's row after both halves were written, one after the other.
use Rattle.std.proofs.Common.{◌≡◌, ℕ, suc, ◌+◌, ◌-◌, ◌*◌, ◌≤◌, List, [], ◌++◌, length, get_or, drop, refl, ◌∙◌, arith}
use borrow.Rule.Slice.PartMut.{put_mid, post_of}
use Rattle.std.proofs.lemmas.List.{length-append, take_at, get_or_append_left, get_or-append_right}
use Rattle.std.proofs.lemmas.Slice.{drop-put_mid, drop-append-drop}
use Rattle.paging.specs.Belady.{Fewest}
use Rattle.paging.specs.Lru.{lru_fetches}
use Rattle.paging.proofs.Belady.{fewest}
use Rattle.paging.proofs.Competitive.{competitive}
use Rattle.curve.specs.Counts as house
use Rattle.belady.specs.Counts as known
use Rattle.belady.specs.Reported.{Reported}

-- the bound from what stands in both
bounded :
    (trace : List ℕ) (k h n least : ℕ) → 1 ≤ h → h ≤ k → n ≡ lru_fetches k [] trace → Fewest h trace least → (suc k - h) * n ≤ k * least
bounded trace k h n least low le is f =
    let b = competitive k h trace f.schedule (omega arith) le f.fits in
    rw (is, ← f.fetches) b

module _
    (trace : List ℕ) (m k l : ℕ) (row first second : List ℕ) (same : k ≡ m) (as-well : l ≡ m) (long : 2 * m ≤ length row)
    (len : length first ≡ m) (len-2 : length second ≡ m)
  where
    abbrev whole : List ℕ
    whole = put_mid m l (first ++ drop k row) second

    is_whole : whole ≡ first ++ (second ++ post_of m l (first ++ drop k row))
    is_whole = rw (take_at first (drop k row) m len) refl

    at_first : (c : ℕ) → 1 ≤ c → c ≤ m → get_or whole (c - 1) 0 ≡ get_or first (c - 1) 0
    at_first c low high = rw is_whole (get_or_append_left first _ 0 (c - 1) (omega arith))

    at_second : (c : ℕ) → 1 ≤ c → c ≤ m → get_or whole (m + c - 1) 0 ≡ get_or second (c - 1) 0
    at_second c low high =
        let rest = post_of m l (first ++ drop k row) in
        let past = get_or-append_right first (second ++ rest) m (m + c - 1) 0 len (omega arith) in
        let place : m + c - 1 - m ≡ c - 1 = omega arith in
        rw is_whole (past ∙ rw place (get_or_append_left second rest 0 (c - 1) (omega arith)))

    beyond : drop (2 * m) whole ≡ drop (2 * m) row
    beyond =
        let more = length-append first (drop k row) in
        drop-put_mid m l (first ++ drop k row) second (2 * m) (omega arith) (omega arith) (omega arith)
        ∙ drop-append-drop k row first (2 * m) (omega arith) (omega arith)

    pub reported : house.Fetches trace first → known.Fetches trace second → Reported trace m row whole
    reported lru belady =
        let fetches : (c : ℕ) → 1 ≤ c → c ≤ m → get_or whole (c - 1) 0 ≡ lru_fetches c [] trace =
        λ c low high. at_first c low high ∙ lru c low (omega arith) in
        let least : (c : ℕ) → 1 ≤ c → c ≤ m → Fewest c trace (get_or whole (m + c - 1) 0) =
        λ c low high. rw (at_second c low high ∙ belady c low (omega arith)) (fewest c trace (omega arith)) in
        record {
          fetches = fetches;
          fewest = least;
          bound = λ k h low le high. bounded trace k h _ _ low le (fetches k (omega arith) high) (least h low (omega arith));
          beyond = beyond;
        }
