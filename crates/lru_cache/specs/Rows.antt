-- A cache row: its capacity k, how many pages it holds, the pages, the one requested last first, and 0 in the free places up to k. What
-- lies beyond is the caller's. Assumes nothing: these are definitions.
--     capacity row            how many places it has
--     cached row              the pages that it holds
--     row_of k pages rest     the row of capacity k that holds the pages, with rest beyond it
--     shaped row m            the row has room for its capacity, which is 1 to 4,096, and an index row of m numbers is long enough for it
--     first_bad at seen xs    the first of xs, which stand in the row from `at` on, that is among those before it or is not below 2^32
--     fault row m             why the row is no cache row with an index row of m numbers, or None
--     first_wide trace        the first page of the trace that is not below 2^32, as a refusal, or None
--     refusal row m trace     why the trace is not played on the row, or None
--     unplayed k trace        why the trace is not played from an empty cache of k places, or None
use Rattle.std.specs.Prelude.{ℕ, suc, ◌+◌, ◌-◌, ◌*◌, ◌^◌, Bool, cond, ◌&&◌, ◌||◌, List, [], ◌∷◌, ◌++◌, length, take, drop, replicate, Some, None, Option, nat_le, slice_index}
use Rattle.paging.specs.Lists.{has}
use Rattle.lru_cache.specs.declared.refusals.Refusal.{Refusal}
use Rattle.lru_cache.specs.declared.refusals.Refusal.TheVariants.{NoCache, Overfull, BadPage, BadRequest}

abbrev pub capacity : List ℕ → ℕ
capacity row = slice_index row 0

abbrev pub cached : List ℕ → List ℕ
cached row = take (slice_index row 1) (drop 2 row)

unfoldable pub row_of : ℕ → List ℕ → List ℕ → List ℕ
row_of k pages rest = k ∷ length pages ∷ ((pages ++ replicate (k - length pages) 0) ++ rest)

abbrev pub shaped : List ℕ → ℕ → Bool
shaped row m =
    nat_le 2 (length row) && (nat_le 1 (capacity row) && (nat_le (capacity row) 4096 && (nat_le (2 + capacity row) (length row) && nat_le (9 * capacity row + 5) m)))

unfoldable pub first_bad : ℕ → List ℕ → List ℕ → Option Refusal
first_bad at seen [] = None
first_bad at seen (x ∷ xs) = cond (has seen x || nat_le (2 ^ 32) x) (Some (BadPage at)) (first_bad (suc at) (x ∷ seen) xs)

unfoldable pub fault : List ℕ → ℕ → Option Refusal
fault row m = cond (shaped row m) (cond (nat_le (slice_index row 1) (capacity row)) (first_bad 2 [] (cached row)) (Some Overfull)) (Some NoCache)

unfoldable pub first_wide : List ℕ → Option Refusal
first_wide [] = None
first_wide (x ∷ xs) = cond (nat_le (2 ^ 32) x) (Some (BadRequest x)) (first_wide xs)

abbrev pub or_else : Option Refusal → Option Refusal → Option Refusal
or_else None e = e
or_else (Some e) f = Some e

unfoldable pub refusal : List ℕ → ℕ → List ℕ → Option Refusal
refusal row m trace = or_else (fault row m) (first_wide trace)

abbrev pub unplayed : ℕ → List ℕ → Option Refusal
unplayed k trace = cond (nat_le 1 k && nat_le k 4096) (first_wide trace) (Some NoCache)
