-- The picture of the report on 1 to m places of a day, of which these requests were kept and `total` were made. Assumes nothing.
--     no_picture requests total m                 why there is no picture, or None
--     Pictured requests m k before after          the picture of a report on the requests was added to the text
--     Drawn requests total m k r before after     r says whether it was, or why not; where there is no report, nothing was added
use Rattle.std.specs.Prelude.{◌≡◌, ℕ, List, ◌++◌, Some, None, Ok, Err, Option, Result}
use Rattle.std.specs.Option.{option_or}
use Rattle.belady.specs.Reported.{Reported}
use Rattle.curve.specs.Refused.{refusal}
use Rattle.lru_cache.specs.declared.refusals.Refusal.{Refusal}
use Rattle.picture.specs.Pictured.{picture}
use Rattle.closing.specs.Summed.{cut_off}
use Rattle.lru_cache.specs.declared.stops.Stop.{Stop}
use Rattle.lru_cache.specs.declared.stops.Stop.TheVariants.{Refused, Memory}

abbrev pub no_picture : List ℕ → ℕ → ℕ → Option Refusal
no_picture requests total m = option_or (refusal requests m 8192) (cut_off requests total)

pub record Pictured (requests : List ℕ) (m k : ℕ) (before after : List ℕ) : Type 0 where
  pub row : List ℕ
  pub reported : Reported requests m row row
  pub added : after ≡ before ++ picture row m k

abbrev pub Drawn : {T : Type 0} → List ℕ → ℕ → ℕ → ℕ → Result T Stop → List ℕ → List ℕ → Type 0
Drawn requests total m k (Ok done) before after = (no_picture requests total m ≡ None) × Pictured requests m k before after
Drawn requests total m k (Err (Refused e)) before after = (no_picture requests total m ≡ Some e) × (after ≡ before)
Drawn requests total m k (Err Memory) before after = Unit {0}
