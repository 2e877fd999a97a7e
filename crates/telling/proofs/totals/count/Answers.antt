use Rattle.std.proofs.Common.{◌≡◌, ℕ, suc, ◌+◌, ◌-◌, ◌*◌, sym, ap, ◌∙◌, arith}
use Rattle.paging.proofs.Counts.{exact_counts}
use Rattle.telling.proofs.totals.count.Goals as goal

pub returns-clause-totalled : goal.returns-clause-totalled
returns-clause-totalled c =
    let k = c.args.k in
    let h = c.args.h in
    let m = c.args.rounds in
    let less : k + 1 - h ≡ suc k - h = omega arith in
    let rival : h + m * (k + 1 - h) ≡ h + m * (suc k - h) = ap (λ (n : ℕ). h + m * n) less in
    λ policy obeys.
    let e = exact_counts k h m policy c.requires.low c.requires.within obeys in
    record { asked = sym e.requested; keeper = sym e.fetched; rival = rival ∙ sym e.fetched_beside }
