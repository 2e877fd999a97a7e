use Rattle.std.proofs.Common.{length, arith, rules}
use Rattle.ffi.proofs.Turns.{starts}
use Rattle.ffi.proofs.challenges.dq_begin.Goals as goal

pub returns-in-Ok : goal.returns-in-Ok
returns-in-Ok c =
    let b = c.in-Ok.ensures.cases in
    let none = starts c.args.k c.args.h (length c.args.state.now) (length c.args.row.now) (omega arith) b.fits in
    rw none (record { cases = record { value = search rules; challenge = c.in-Ok.challenge; begun = b; unasked = c.in-Ok.ensures.unasked; after = search rules } })
