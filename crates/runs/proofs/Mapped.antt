-- What an error that is mapped tells of the one before.
use Rattle.std.proofs.Common.{◌≡◌, Ok, Err, Result, MatchResult, refl}
use Rattle.std.specs.Result.{IsErrAnd}

pub mapped :
    {T E D : Type 0} (r : Result T E) (r' : Result T D) (P : E → D → Type 0) → MatchResult r (λ x. r' ≡ Ok x) (λ e. IsErrAnd r' (P e)) →
    MatchResult r' (λ x. r ≡ Ok x) (λ d. (e : E) × (r ≡ Err e) × P e d)
mapped (Ok x) r' P m = rw m refl
mapped (Err e) (Ok x) P m = absurd m
mapped (Err e) (Err d) P m = (e, refl, m)
