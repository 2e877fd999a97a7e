-- A row after one number is written in it, by its parts.
use Rattle.std.proofs.Common.{◌≡◌, ℕ, ◌+◌, ◌*◌, ◌<◌, ◌≤◌, true, false, List, [], ◌∷◌, ◌++◌, length, take, drop, set, ap, ◌∙◌, arith}
use Rattle.std.proofs.lemmas.List.{take_more_set, drop-set-add, length-drop}
use Rattle.paging.specs.Adversary.{once_each}
use Rattle.paging.specs.Lists.{has}

-- one page more behind the noted ones, or none
pub once_there : (seen : List ℕ) (page : ℕ) → has seen page ≡ true → once_each seen (page ∷ []) ≡ seen
unfolding once_each
once_there seen page there = simp there

pub once_new : (seen : List ℕ) (page : ℕ) → has seen page ≡ false → once_each seen (page ∷ []) ≡ seen ++ page ∷ []
unfolding once_each
once_new seen page absent = simp absent

module _ (row : List ℕ) (k noted page : ℕ) (long : 3 * k + 1 ≤ length row) (room : noted < k) where
  abbrev noted_row : List ℕ
  noted_row = set row (k + 1 + noted) page

  pub note_after : take (noted + 1) (drop (k + 1) noted_row) ≡ take noted (drop (k + 1) row) ++ page ∷ []
  note_after =
      let l = length-drop (k + 1) row in
      ap (take (noted + 1)) (drop-set-add (k + 1) row noted page) ∙ take_more_set (drop (k + 1) row) noted page (omega arith)
