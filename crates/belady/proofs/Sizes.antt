-- Whether the fetches of a trace are counted with h places. Assumes nothing.
--     capacity_told      what is known of a capacity is handed on by `ok_or`
--     counted_short, counted_long, counted_none      they are; the trace is too long; h is no capacity
use Rattle.std.proofs.Common.{◌≡◌, ℕ, ◌<◌, ◌≤◌, ◌⊎◌, List, length, None, Some, Option, Result, MatchOption, MatchResult, refl, arith}
use Rattle.std.proofs.lemmas.Bool.Decides.{nat_tests}
use Rattle.std.specs.Option.{ok_or}
use Rattle.lru_cache.specs.declared.refusals.Refusal.{Refusal}
use Rattle.lru_cache.specs.declared.refusals.Refusal.TheVariants.{LongTrace, NoCache}
use Rattle.belady.specs.Counts.{uncounted}

pub capacity_told :
    {A : Type 0} (places : A → ℕ) (h : ℕ) (o : Option A) (r : Result A Refusal) → MatchOption o ((h ≡ 0) ⊎ (4096 < h)) (λ c. places c ≡ h) →
    r ≡ ok_or o NoCache → MatchResult r (λ c. places c ≡ h) (λ e. ((h ≡ 0) ⊎ (4096 < h)) × (e ≡ NoCache))
capacity_told places h None r bad is = rw is (bad, refl)
capacity_told places h (Some c) r good is = rw is good

module _ (h : ℕ) (trace : List ℕ) where
  pub counted_long : 4096 < length trace → Some (LongTrace (length trace)) ≡ uncounted h trace
  counted_long long = grind (arith, nat_tests)

  module _ (short : length trace ≤ 4096) where
    pub counted_none : (h ≡ 0) ⊎ (4096 < h) → Some NoCache ≡ uncounted h trace
    counted_none bad = grind (arith, nat_tests)

    pub counted_short : 1 ≤ h → h ≤ 4096 → None ≡ uncounted h trace
    counted_short low high = grind (arith, nat_tests)
