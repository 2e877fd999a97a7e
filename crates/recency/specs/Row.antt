-- A row of numbers as slots, links and chains. Assumes nothing: these are definitions.
--     length_for k        how many numbers a row for k pages has, where k is a capacity
--     next row s          the slot used just before slot s; slot 0 stands before the first and after the last
--     prev row s          the slot used just after slot s
--     held row s          the page in slot s; in slot 0 the page that is looked for
--     behind row s        the slot behind slot s in its chain, or 0
--     lead row s          where in the row the number stands that leads to slot s
--     count row           how many slots hold a page: slots 1 to count
--     behind_at s, lead_at s, door k h    where in the row these stand: what is behind s, what leads to s, the first slot of chain h
--     walk n f s          s, f s, f (f s) .. : n of them
--     pages row           the pages that the row holds, the one used last first
--     homed f h slots     the slots whose home by f is h, in order
--     home_of k row s     the home of the page in slot s
--     unlinked row s      the row with slot s taken out of the ring
--     pushed row s        the row with slot s put in front of the ring
--     forgotten row s     the row with slot s taken out of its chain
--     entered row at s    the row with slot s put in front of the chain that begins at `at`
--     admitted k row s x  the row with slot s, which was in neither ring nor chain, in front of both with page x
--     renewed k row s x   the row with slot s, which was in both, in front of both with page x
use Rattle.std.specs.Prelude.{ℕ, zero, suc, ◌+◌, ◌*◌, ◌==◌, cond, ◌&&◌, List, [], ◌∷◌, map, Some, None, Option, nat_le, slice_index, slice_set}
use Rattle.recency.specs.Hash.{home}

abbrev pub length_for : ℕ → Option ℕ
length_for k = cond (nat_le 1 k && nat_le k 4096) (Some (9 * k + 5)) None

abbrev pub next : List ℕ → ℕ → ℕ
next row s = slice_index row (5 * s)

abbrev pub prev : List ℕ → ℕ → ℕ
prev row s = slice_index row (5 * s + 1)

abbrev pub held : List ℕ → ℕ → ℕ
held row s = slice_index row (5 * s + 2)

abbrev pub behind_at : ℕ → ℕ
behind_at s = 5 * s + 3

abbrev pub behind : List ℕ → ℕ → ℕ
behind row s = slice_index row (behind_at s)

abbrev pub lead_at : ℕ → ℕ
lead_at s = 5 * s + 4

abbrev pub lead : List ℕ → ℕ → ℕ
lead row s = slice_index row (lead_at s)

abbrev pub count : List ℕ → ℕ
count row = slice_index row 3

abbrev pub door : ℕ → ℕ → ℕ
door k h = 5 * k + 5 + h

unfoldable pub walk : ℕ → (ℕ → ℕ) → ℕ → List ℕ
walk zero f s = []
walk (suc n) f s = s ∷ walk n f (f s)

unfoldable pub pages : List ℕ → List ℕ
pages row = map (held row) (walk (count row) (next row) (next row 0))

unfoldable pub homed : (ℕ → ℕ) → ℕ → List ℕ → List ℕ
homed f h [] = []
homed f h (s ∷ slots) = cond (f s == h) (s ∷ homed f h slots) (homed f h slots)

abbrev pub home_of : ℕ → List ℕ → ℕ → ℕ
home_of k row s = home k (held row s)

abbrev pub unlinked : List ℕ → ℕ → List ℕ
unlinked row s = slice_set (slice_set row (5 * prev row s) (next row s)) (5 * next row s + 1) (prev row s)

abbrev pub pushed : List ℕ → ℕ → List ℕ
pushed row s = slice_set (slice_set (slice_set (slice_set row (5 * s) (next row 0)) (5 * s + 1) 0) (5 * next row 0 + 1) s) 0 s

abbrev pub forgotten : List ℕ → ℕ → List ℕ
forgotten row s = slice_set (slice_set row (lead row s) (behind row s)) (lead_at (behind row s)) (lead row s)

abbrev pub entered : List ℕ → ℕ → ℕ → List ℕ
entered row at s =
    slice_set (slice_set (slice_set (slice_set row (behind_at s) (slice_index row at)) (lead_at s) at) at s) (lead_at (slice_index row at)) (behind_at s)

abbrev pub admitted : ℕ → List ℕ → ℕ → ℕ → List ℕ
admitted k row s x = entered (pushed (slice_set row (5 * s + 2) x) s) (door k (home k x)) s

abbrev pub renewed : ℕ → List ℕ → ℕ → ℕ → List ℕ
renewed k row s x = admitted k (unlinked (forgotten row s) s) s x
