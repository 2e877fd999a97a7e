-- Whether the index row of an LRU cache is well formed, as a test: so a struct can hold the row and say of it that it is. (What a struct says
-- of its fields may have one proof at most, and Sound has the order of the slots in it.) Assumes nothing: these are definitions.
--     every n p                  p holds of every number below n
--     chained f g a slots b      f leads from a through the slots to b, one to the next, and g leads back
--     at_most n slots            no slot is above n
--     ring row                   the slots that hold a page, the one used last first
--     led row at slots           the number at `at` leads through the slots to 0, and each slot says what leads to it
--     led_chain k row order h    chain h leads through the slots of order whose pages have that home
--     linked_slot order n        slot n + 1 stands in order
--     sized k row                the lengths and counts are right
--     linked row order           the links go through order: every slot with a page, none twice, and no page twice
--     whole k row                the row is one for k pages: its ring and its chains
use Rattle.std.specs.Prelude.{ℕ, zero, suc, ◌+◌, ◌*◌, Bool, true, ◌&&◌, List, [], ◌∷◌, map, length, ◌==◌, nat_le, slice_index}
use Rattle.paging.specs.Lists.{has, distinct}
use Rattle.recency.specs.Row.{count, next, prev, held, lead, behind_at, door, walk, homed, home_of}

unfoldable pub every : ℕ → (ℕ → Bool) → Bool
every zero p = true
every (suc n) p = p n && every n p

unfoldable pub chained : (ℕ → ℕ) → (ℕ → ℕ) → ℕ → List ℕ → ℕ → Bool
chained f g a [] b = f a == b && g b == a
chained f g a (s ∷ slots) b = f a == s && (g s == a && chained f g s slots b)

unfoldable pub at_most : ℕ → List ℕ → Bool
at_most n [] = true
at_most n (s ∷ slots) = nat_le s n && at_most n slots

abbrev pub ring : List ℕ → List ℕ
ring row = walk (count row) (next row) (next row 0)

unfoldable pub led : List ℕ → ℕ → List ℕ → Bool
led row at [] = slice_index row at == 0
led row at (s ∷ slots) = slice_index row at == s && (lead row s == at && led row (behind_at s) slots)

abbrev pub led_chain : ℕ → List ℕ → List ℕ → ℕ → Bool
led_chain k row order h = led row (door k h) (homed (home_of k row) h order)

unfoldable pub sized : ℕ → List ℕ → Bool
sized k row = nat_le 1 k && (nat_le k 4096 && (nat_le (9 * k + 5) (length row) && nat_le (count row) k))

abbrev pub linked_slot : List ℕ → ℕ → Bool
linked_slot order n = has order (suc n)

unfoldable pub linked : List ℕ → List ℕ → Bool
linked row order =
    chained (next row) (prev row) 0 order 0
    && (distinct (0 ∷ order) && (at_most (count row) order && (every (count row) (linked_slot order) && distinct (map (held row) order))))

unfoldable pub whole : ℕ → List ℕ → Bool
whole k row = sized k row && (linked row (ring row) && every (4 * k) (led_chain k row (ring row)))
