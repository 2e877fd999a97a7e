-- A policy in a run. Assumes nothing: this is a definition.
--     Led policy history now       now is the policy after these requests, the latest first
use Rattle.std.specs.Prelude.{◌≡◌, ℕ, List, ◌++◌}
use Rattle.paging.specs.Policies.{Policy}

abbrev pub Led : Policy → List ℕ → Policy → Type 0
Led policy history current = (further : List ℕ) → current further ≡ policy (further ++ history)
