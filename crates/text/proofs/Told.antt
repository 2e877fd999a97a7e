-- A word's first bytes, as many as are kept. Assumes nothing.
--     told_more      one byte more, which is kept where there is room
use Rattle.std.proofs.Common.{◌≡◌, ℕ, ◌<◌, [], ◌∷◌, ◌++◌, length, take, Ok, Err, Result, sym, refl, ap, ◌∙◌, ◌↔◌, IsOk, OnOk, OnErr, arith}
use Rattle.std.proofs.lemmas.List.{take_all, length_push, take-append-le}
use Rattle.arrayvec.specs.ArrayVec.{ArrayVec}

module _ {E : Type 0} (word word' : ArrayVec ℕ) (b : ℕ) where
  pub told_more :
      (r : Result (Unit {0}) E) → (IsOk r ↔ (length word.items < 41)) → OnOk r (word'.items ≡ word.items ++ b ∷ []) → OnErr r (word' ≡ word) →
      OnErr r (length word.items ≡ 41) → word'.items ≡ take 41 (word.items ++ b ∷ [])
  told_more (Ok v) room more same full =
      let short : length word.items < 41 = room.0 refl in
      more ∙ sym (take_all 41 (word.items ++ b ∷ []) (omega (arith, length_push word.items b)))
  told_more (Err e) room more same full =
      ap (λ (w : ArrayVec ℕ). w.items) same ∙ sym (take-append-le 41 word.items (b ∷ []) (omega arith) ∙ take_all 41 word.items (omega arith))
