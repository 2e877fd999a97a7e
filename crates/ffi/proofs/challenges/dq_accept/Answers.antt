use Rattle.std.proofs.Common.{rules}
use Rattle.ffi.proofs.Turns.{if_long_is}
use Rattle.ffi.proofs.challenges.dq_accept.Goals as goal

pub returns-in-Ok : goal.returns-in-Ok
returns-in-Ok c =
    let s = c.in-Some.ensures.cases in
    rw s.is (record { cases = record { challenge = c.in-Some.challenge; stands_at = s; cases = rw c.in-Ok.ensures.kept (search rules) } })

pub returns-in-Err : goal.returns-in-Err
returns-in-Err c =
    let s = c.in-Some.ensures.cases in
    let why = rw (if_long_is c.in-Some.challenge _ _ s.room) at c.in-Err.ensures.refused in
    rw s.is (record { cases = record { challenge = c.in-Some.challenge; stands_at = s; cases = rw why (search rules) } })
