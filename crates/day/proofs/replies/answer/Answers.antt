use Rattle.std.proofs.Common.{sym}
use Rattle.std.proofs.lemmas.Result.{err_from_is_err_and}
use Rattle.day.proofs.Turned.{played, refused}
use Rattle.day.proofs.replies.answer.Goals as goal

pub returns-in_err-play : goal.returns-in_err-play
returns-in_err-play c =
    let p = c.in_err-play.ensures in
    let q = err_from_is_err_and c.from_residual.result c.from_residual.ensures.1 in
    let a = refused c.args.cache.now c.args.index.now c.args.trace.now _ _ _ c.requires.ready c.requires.small (sym p.refused) p.same.0 p.same.1 in
    rw (q.1, q.2) (record { ready = a.ready; capacity = a.same; after = a.after; replied = a.replied })

pub returns : goal.returns
returns c =
    let p = c.in_ok-play.ensures in
    let a = played c.args.cache.now c.args.index.now c.args.trace.now c.args.found.now _ _ _ _ c.requires.room c.play.auto.index (sym p.refused) p.played in
    record { ready = a.ready; capacity = a.same; after = a.after; replied = a.replied }
