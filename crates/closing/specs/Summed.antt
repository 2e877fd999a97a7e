-- What is said of a day with k places, of which these requests were kept and `total` were made. Assumes nothing.
--     cut_off requests total                      the refusal of a day of which not all requests were kept
--     no_summary requests total k                 why there is no summary, or None
--     Told requests k before after                a summary of the requests was added to the text
--     Summed requests total k before after        the summary was added, or the line of the refusal
use Rattle.std.specs.Prelude.{◌≡◌, ℕ, ◌||◌, List, [], ◌∷◌, ◌++◌, length, Option, MatchOption, ◌==◌, nat_lt}
use Rattle.std.specs.Option.{option_or}
use Rattle.std.specs.Bool.{then_some}
use Rattle.curve.specs.Refused.{refusal}
use Rattle.lru_cache.specs.Refusals.{refusal_bytes}
use Rattle.lru_cache.specs.declared.refusals.Refusal.{Refusal}
use Rattle.lru_cache.specs.declared.refusals.Refusal.TheVariants.{NoCache, LongTrace}
use Rattle.summary.specs.Counted.{Says}
use Rattle.summary.specs.Said.{paragraph}
use Rattle.summary.specs.declared.summaries.Summary.{Summary}

abbrev pub cut_off : List ℕ → ℕ → Option Refusal
cut_off requests total = then_some (nat_lt (length requests) total) (LongTrace total)

abbrev pub no_summary : List ℕ → ℕ → ℕ → Option Refusal
no_summary requests total k =
    option_or (then_some (k == 0 || nat_lt 4096 k) NoCache) (option_or (refusal requests k 8192) (cut_off requests total))

pub record Told (requests : List ℕ) (k : ℕ) (before after : List ℕ) : Type 0 where
  pub numbers : Summary
  pub says : Says requests k numbers
  pub added : after ≡ before ++ paragraph numbers

abbrev pub Summed : List ℕ → ℕ → ℕ → List ℕ → List ℕ → Type 0
Summed requests total k before after =
    MatchOption (no_summary requests total k) (Told requests k before after)
    (λ e. after ≡ before ++ (refusal_bytes e ++ (10 ∷ [])))
