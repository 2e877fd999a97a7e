-- The schedule beside a run, as it is read. Assumes nothing: this is a statement.
--     ReadsSchedule       the whole schedule is read: at the end of the opening, and of each round, its caches after each request
use Rattle.std.specs.Prelude.{◌≡◌, ℕ, suc, ◌+◌, ◌*◌, ◌<◌, ◌≤◌, List, [], slice_index_or}
use Rattle.paging.specs.Adversary.{beside}
use Rattle.paging.specs.Policies.{Policy}
use Rattle.adversary.specs.declared.challenge.Challenge.{Challenge}
use Rattle.adversary.specs.Beside.{cache_in}
use Rattle.runs.specs.Runs.{Against}

abbrev pub ReadsSchedule : Type 0
ReadsSchedule =
    (k h m : ℕ) (policy : Policy) (c : Challenge) (row : List ℕ) (i : ℕ) → 0 < h → h ≤ k →
    (Against k h policy h c row → i < h → cache_in c row i ≡ slice_index_or (beside k h policy 0) i [])
    × (Against k h policy (h + suc m * k) c row → i < k → cache_in c row i ≡ slice_index_or (beside k h policy (suc m)) (h + m * k + i) [])
