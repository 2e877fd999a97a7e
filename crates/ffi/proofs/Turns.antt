-- Why a challenge does not begin or goes no further, where its rows are long enough.
use Rattle.std.proofs.Common.{◌≡◌, ℕ, ◌+◌, ◌*◌, ◌≤◌, List, length, None, Option, arith}
use Rattle.std.proofs.lemmas.Bool.Decides.{nat_tests}
use Rattle.lru_cache.specs.declared.refusals.Refusal.{Refusal}
use Rattle.adversary.specs.declared.challenge.Challenge.{Challenge}
use Rattle.adversary.specs.Begins.{unfit}
use Rattle.adversary.specs.Steps.{if_long}
use Rattle.ffi.specs.Challenges.{no_start}

pub if_long_is : (c : Challenge) (row : List ℕ) (e : Option Refusal) → 3 * c.k + 1 ≤ length row → if_long c row e ≡ e
if_long_is c row e long = grind (arith, nat_tests)

pub starts : (k h n m : ℕ) → 8 ≤ n → unfit k h m ≡ None → no_start k h n m ≡ None
starts k h n m long fits = grind (arith, nat_tests, fits)
