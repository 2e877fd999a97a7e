-- What stands on the picture, as bytes of SVG. Assumes nothing: these are definitions.
--     shape_bytes s     one of the shapes
--     side_bytes x      on which side of a mark at x there is more room
--     label_bytes l     what is written beside the mark
use Rattle.std.specs.Prelude.{ℕ, ◌-◌, cond, List, ◌++◌, codes, decimal, nat_le}
use Rattle.picture.specs.declared.shapes.Label.{Label}
use Rattle.picture.specs.declared.shapes.Shape.{Shape}
use Rattle.picture.specs.declared.shapes.Shape.TheVariants.{Head, Fetches, Places, House, Known, Step, Across, Mark, Legend, Tail}

abbrev pub shape_bytes : Shape → List ℕ
shape_bytes Head =
    codes "<svg xmlns='http://www.w3.org/2000/svg' viewBox='0 0 800 480' width='100%' font-family='sans-serif' font-size='16'>\n"
    ++ codes "<rect width='800' height='480' fill='#fff'/>\n"
shape_bytes (Fetches y n) =
    codes "<path d='M80 " ++ (decimal y ++ (codes "H760' stroke='#ccc'/><text x='70' y='" ++ (decimal y
    ++ (codes "' dy='5' text-anchor='end'>" ++ (decimal n ++ codes "</text>\n")))))
shape_bytes (Places x c) =
    codes "<path d='M" ++ (decimal x ++ (codes " 420v6' stroke='#000'/><text x='" ++ (decimal x
    ++ (codes "' y='444' text-anchor='middle'>" ++ (decimal c ++ codes "</text>\n")))))
shape_bytes (House y) = codes "<path fill='none' stroke='#d2691e' stroke-width='6' d='M80 " ++ decimal y
shape_bytes (Known y) = codes "<path fill='none' stroke='#102a5c' stroke-width='2.5' stroke-dasharray='9 4' d='M80 " ++ decimal y
shape_bytes (Step x y) = codes "H" ++ (decimal x ++ (codes "V" ++ decimal y))
shape_bytes Across = codes "H760'/>\n"
shape_bytes (Mark x above below) =
    codes "<path d='M" ++ (decimal x ++ (codes " 70V420' stroke='#555' stroke-dasharray='2 3'/><path d='M" ++ (decimal x
    ++ (codes " " ++ (decimal above ++ (codes "V" ++ (decimal below ++ codes "' stroke='#000' stroke-width='2'/>\n")))))))
shape_bytes Legend =
    codes "<path d='M100 28H160' stroke='#d2691e' stroke-width='6'/><text x='170' y='33'>house</text>\n"
    ++ codes "<path d='M260 28H320' stroke='#102a5c' stroke-width='2.5' stroke-dasharray='9 4'/><text x='330' y='33'>known</text>\n"
shape_bytes Tail =
    codes "<text x='70' y='62' text-anchor='end'>fetches</text><text x='420' y='470' text-anchor='middle'>places</text>\n"
    ++ (codes "<path d='M80 90V420H760' fill='none' stroke='#000'/>\n"
    ++ codes "</svg>\n")

abbrev pub side_bytes : ℕ → List ℕ
side_bytes x = cond (nat_le x 420) (codes "dx='8'") (codes "dx='-8' text-anchor='end'")

abbrev pub label_bytes : Label → List ℕ
label_bytes l =
    codes "<text x='" ++ (decimal l.x ++ (codes "' y='80' " ++ (side_bytes l.x ++ (codes ">" ++ (decimal l.places ++ (codes ": house "
    ++ (decimal l.house ++ (codes " known " ++ (decimal l.known ++ (codes ", gap " ++ (decimal (l.house - l.known) ++ codes "</text>\n")))))))))))
