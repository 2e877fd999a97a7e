-- What `clear` leaves where the row is long enough.
use Rattle.std.proofs.Common.{◌≡◌, ℕ, ◌+◌, ◌*◌, ◌≤◌, Bool, true, List, length, MatchBool, ◌∙◌, arith}
use Rattle.std.proofs.lemmas.Bool.Decides.{nat_tests, when_true}
use Rattle.recency.specs.Outcome.{fits}
use Rattle.recency.specs.Sound.{Emptied}

pub cleared :
    (k : ℕ) (row : List ℕ) (r : Bool) (row' : List ℕ) → 1 ≤ k → k ≤ 4096 → 9 * k + 5 ≤ length row → r ≡ fits k (length row) →
    MatchBool r (Emptied k row row') (row' ≡ row) → Emptied k row row'
cleared k row r row' low high long is after =
    let fit : fits k (length row) ≡ true = grind (arith, nat_tests) in
    when_true (Emptied k row row') (row' ≡ row) (is ∙ fit) after
