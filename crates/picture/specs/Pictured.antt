-- The whole picture of a report's row for m capacities. Assumes nothing: these are definitions.
--     told piece i n              n pieces, from the i-th on
--     fetches_piece t s i         the i-th number on the axis for fetches, where they are s apart and t is at the top
--     places_piece m s i          the one after the i-th on the axis for places
--     steps_piece fetches t m i   how a line goes on from the i-th of m places to the next: not at all where it stays as high
--     frame t s m                 both axes
--     line start fetches t m      a line that begins with start
--     lines house known t m       both lines
--     mark house known t m k      the mark for k places, where the picture has them
--     drawn house known t s m k   the whole
--     picture row m k             the whole of a row
--     drawable row m              row is long enough for a report of m capacities, and m is 1 to 4,096
use Rattle.std.specs.Prelude.{ℕ, zero, suc, ◌+◌, ◌-◌, ◌*◌, ◌/◌, min, Bool, cond, ◌&&◌, ◌||◌, List, [], ◌++◌, length, take, drop, ◌==◌, nat_le, nat_lt, slice_index}
use Rattle.picture.specs.Drawn.{shape_bytes, label_bytes}
use Rattle.picture.specs.Scaled.{step, top, edge, middle, height}
use Rattle.picture.specs.declared.shapes.Shape.{Shape}
use Rattle.picture.specs.declared.shapes.Shape.TheVariants.{Head, Fetches, Places, House, Known, Step, Across, Mark, Legend, Tail}

unfoldable pub told : (ℕ → List ℕ) → ℕ → ℕ → List ℕ
told piece i zero = []
told piece i (suc n) = piece i ++ told piece (i + 1) n

abbrev pub fetches_piece : ℕ → ℕ → ℕ → List ℕ
fetches_piece t s i = shape_bytes (Fetches (height t (i * s)) (i * s))

abbrev pub places_piece : ℕ → ℕ → ℕ → List ℕ
places_piece m s i = shape_bytes (Places (middle m (i * s + s)) (i * s + s))

abbrev pub steps_piece : List ℕ → ℕ → ℕ → ℕ → List ℕ
steps_piece fetches t m i =
    cond (height t (slice_index fetches (i - 1)) == height t (slice_index fetches i)) [] (shape_bytes (Step (edge m i) (height t (slice_index fetches i))))

unfoldable pub frame : ℕ → ℕ → ℕ → List ℕ
frame t s m =
    shape_bytes Head
    ++ (told (fetches_piece t s) 0 (t / s + 1)
    ++ told (places_piece m (step ((m + 1) / 2))) 0 (m / step ((m + 1) / 2)))

unfoldable pub line : Shape → List ℕ → ℕ → ℕ → List ℕ
line start fetches t m = shape_bytes start ++ (told (steps_piece fetches t m) 1 (m - 1) ++ shape_bytes Across)

unfoldable pub lines : List ℕ → List ℕ → ℕ → ℕ → List ℕ
lines house known t m =
    line (House (height t (slice_index house 0))) house t m ++ line (Known (height t (slice_index known 0))) known t m

unfoldable pub mark : List ℕ → List ℕ → ℕ → ℕ → ℕ → List ℕ
mark house known t m k =
    cond (k == 0 || nat_lt m k) []
    (shape_bytes (Mark (middle m k) (height t (slice_index house (k - 1))) (height t (slice_index known (k - 1))))
    ++ label_bytes (record { x = middle m k; places = k; house = slice_index house (k - 1); known = slice_index known (k - 1) }))

unfoldable pub drawn : List ℕ → List ℕ → ℕ → ℕ → ℕ → ℕ → List ℕ
drawn house known t s m k = frame t s m ++ (lines house known t m ++ (mark house known t m k ++ (shape_bytes Legend ++ shape_bytes Tail)))

unfoldable pub picture : List ℕ → ℕ → ℕ → List ℕ
picture row m k =
    drawn (take m row) (take m (drop m row)) (top (min (slice_index row 0) 4096)) (step (min (slice_index row 0) 4096)) m k

abbrev pub drawable : List ℕ → ℕ → Bool
drawable row m = nat_le 1 m && (nat_le m 4096 && nat_le (2 * m) (length row))
