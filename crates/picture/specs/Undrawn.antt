-- Whether a picture was drawn, or why not. Assumes nothing: these are definitions.
--     Drawn row m k r before after     r says whether the picture of the row was added to the text, or why not; where there is no row, nothing was added
--     undrawable_bytes e               what an error says
use Rattle.std.specs.Prelude.{◌≡◌, ℕ, true, false, List, ◌++◌, codes, Ok, Err, Result}
use Rattle.picture.specs.Pictured.{picture, drawable}
use Rattle.picture.specs.declared.undrawable.Undrawable.{Undrawable}
use Rattle.picture.specs.declared.undrawable.Undrawable.TheVariants.{NoRow, Memory}

abbrev pub Drawn : {T : Type 0} → List ℕ → ℕ → ℕ → Result T Undrawable → List ℕ → List ℕ → Type 0
Drawn row m k (Ok done) before after = (drawable row m ≡ true) × (after ≡ before ++ picture row m k)
Drawn row m k (Err NoRow) before after = (drawable row m ≡ false) × (after ≡ before)
Drawn row m k (Err Memory) before after = drawable row m ≡ true

abbrev pub undrawable_bytes : Undrawable → List ℕ
undrawable_bytes NoRow = codes "there is no report to draw"
undrawable_bytes Memory = codes "out of memory"
