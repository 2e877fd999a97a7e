use Rattle.std.proofs.Common.{sym, ◌∙◌, arith}
use Rattle.std.proofs.lemmas.Result.{err_from_is_err_and}
use Rattle.lru_cache.proofs.Wholes.{refused_row, refused_trace, whole_played}
use Rattle.lru_cache.proofs.plays.play.Goals as goal

pub returns-in_err-k-clause-refused : goal.returns-in_err-k-clause-refused
returns-in_err-k-clause-refused c =
    let p = err_from_is_err_and c.from_residual.result c.from_residual.ensures.1 in
    rw (p.1, p.2) (sym (refused_row _ _ _ _ c.in_err-k.ensures.cases))

pub returns-in_err-first_wide-clause-refused : goal.returns-in_err-first_wide-clause-refused
returns-in_err-first_wide-clause-refused c =
    let p = err_from_is_err_and c.from_residual-in_err-first_wide.result c.from_residual-in_err-first_wide.ensures.1 in
    rw (p.1, p.2) (c.in_err-first_wide.ensures.value ∙ sym (refused_trace _ _ _ c.in_ok-k.ensures.cases.none))

pub returns : goal.returns
returns c =
    let checked = c.in_ok-k.ensures.cases in
    let narrow = sym c.in_ok-first_wide.ensures.value in
    let run = c.run-fetches.ensures in
    record {
      played =
          whole_played c.args.cache.now c.args.index.now c.args.trace.now c.in_ok-k.k c.in_ok-k.n checked narrow
          c.args.found.now c.run-fetches.new.found c.run-fetches.result c.open.new.index c.close.new.cache c.run-fetches.new.index
          (omega arith) c.open.ensures.after run.value run.told run.after c.close.ensures.after;
      refused = sym (refused_trace _ _ _ checked.none ∙ narrow);
      same = tt;
    }
