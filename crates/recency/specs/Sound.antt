-- When a row is well formed. Assumes nothing: these are definitions.
--     Chain f g a slots b     of the ring, and not of the chains that find pages: f leads from a through the slots to b, one to the next, and g leads back
--     Linked n row order      the links of the row go through order from slot 0 back to slot 0: slots 1 to n, none twice
--     Led row at slots        from the number at `at` on, what is behind leads through the slots to 0, and each slot says what leads to it
--     Finds k row order       each of the 4 k chains leads through the slots of the ring whose pages have that home, in their order
--     Within row s            slot s and the two beside it in the ring are in the row
--     Sized k row             the lengths and counts that every access to the row rests on
--     Sound k row             the row is one for k pages: its ring and its chains agree on the pages, and none stands twice
--     Emptied k row row'      row' is sound and holds no page, and behind its 9 k + 5 numbers nothing has changed
use Rattle.std.specs.Prelude.{◌≡◌, ℕ, ◌+◌, ◌*◌, ◌<◌, ◌≤◌, true, List, [], ◌∷◌, map, length, drop, slice_index}
use Rattle.paging.specs.Lists.{has, distinct}
use Rattle.recency.specs.Row.{count, next, prev, held, lead, behind_at, door, homed, home_of, pages}

unfoldable pub Chain : (ℕ → ℕ) → (ℕ → ℕ) → ℕ → List ℕ → ℕ → Type 0
Chain f g a [] b = (f a ≡ b) × (g b ≡ a)
Chain f g a (s ∷ slots) b = (f a ≡ s) × (g s ≡ a) × Chain f g s slots b

pub record Linked (n : ℕ) (row order : List ℕ) : Type 0 where
  pub chain : Chain (next row) (prev row) 0 order 0
  pub once : distinct (0 ∷ order) ≡ true
  pub within : (s : ℕ) → has order s ≡ true → s ≤ n

unfoldable pub Led : List ℕ → ℕ → List ℕ → Type 0
Led row at [] = slice_index row at ≡ 0
Led row at (s ∷ slots) = (slice_index row at ≡ s) × (lead row s ≡ at) × Led row (behind_at s) slots

abbrev pub Finds : ℕ → List ℕ → List ℕ → Type 0
Finds k row order = (h : ℕ) → h < 4 * k → Led row (door k h) (homed (home_of k row) h order)

pub record Within (row : List ℕ) (s : ℕ) : Type 0 where
  pub slot : 5 * s + 4 < length row
  pub next : 5 * next row s + 4 < length row
  pub prev : 5 * prev row s + 4 < length row

pub record Sized (k : ℕ) (row : List ℕ) : Type 0 where
  pub low : 1 ≤ k
  pub high : k ≤ 4096
  pub long : 9 * k + 5 ≤ length row
  pub few : count row ≤ k

pub record Sound (k : ℕ) (row : List ℕ) : Type 0 where
  pub sized : Sized k row
  pub order : List ℕ
  pub linked : Linked (count row) row order
  pub many : length order ≡ count row
  pub all : (s : ℕ) → 1 ≤ s → s ≤ count row → has order s ≡ true
  pub once : distinct (map (held row) order) ≡ true
  pub finds : Finds k row order

pub record Emptied (k : ℕ) (row row' : List ℕ) : Type 0 where
  pub sound : Sound k row'
  pub none : pages row' ≡ []
  pub beyond : drop (9 * k + 5) row' ≡ drop (9 * k + 5) row
