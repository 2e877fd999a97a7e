-- A run from where the challenge begins.
use Rattle.std.proofs.Common.{◌≡◌, ℕ, suc, ◌+◌, ◌-◌, ◌*◌, ◌^◌, ◌<◌, true, List, is_ok, IfErr, Ok, Err, Result, sym, refl, subst, arith}
use Rattle.paging.specs.Policies.{Policy}
use Rattle.paging.specs.Rules.{Proper}
use Rattle.adversary.specs.declared.challenge.Challenge.{Challenge}
use Rattle.trace.specs.declared.totals.Totals.{Totals}
use Rattle.runs.specs.declared.stopped.Stopped.{Stopped}
use Rattle.adversary.specs.Begins.{Begun}
use Rattle.runs.specs.Runs.{Against}
use Rattle.runs.specs.Whole.{Broke}
use Rattle.runs.proofs.Against.{against_none}
use Rattle.runs.proofs.Never.{never_broke}

module _ (k h : ℕ) (policy : Policy) (row : List ℕ) (c : Challenge) (b : Begun k h row c) where
  pub begun_against : Against c.k c.h policy 0 c row
  begun_against =
      let P : ℕ → Type 0 = λ j. Against j c.h policy 0 c row in
      let Q : ℕ → Type 0 = λ i. Against k i policy 0 c row in
      subst P (sym b.k_is) (subst Q (sym b.h_is) (against_none k h policy row c b))

  module _ (m : ℕ) (row' : List ℕ) (current : Policy) where
    begun_broke : (s : Stopped) → Broke c.k c.h policy m s row' current → Broke k h policy m s row' current
    begun_broke s x =
        let P : ℕ → Type 0 = λ j. Broke j c.h policy m s row' current in
        let Q : ℕ → Type 0 = λ i. Broke k i policy m s row' current in
        subst Q b.h_is (subst P b.k_is x)

    pub run_proper :
        (r : Result Totals Stopped) → IfErr r (λ s. Broke c.k c.h policy m s row' current) → Proper k policy →
        h + m * (suc k - h) < 2 ^ 32 → is_ok r ≡ true
    run_proper (Ok s) x p few = refl
    run_proper (Err s) x p few =
        let low = c.low in
        let within = c.within in
        let e = b.k_is in
        let f = b.h_is in
        absurd (never_broke k h policy m s row' current (omega arith) (omega arith) p few (begun_broke s x))
