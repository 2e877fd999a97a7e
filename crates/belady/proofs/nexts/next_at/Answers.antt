use Rattle.std.proofs.Common.{◌+◌, ◌-◌, length, get_or, drop, rules, arith}
use Rattle.std.proofs.lemmas.List.{length-drop, take_all}
use Rattle.belady.proofs.Standing.{next_told}
use Rattle.belady.proofs.nexts.next_at.Goals as goal

pub returns-clause-value : goal.returns-clause-value
returns-clause-value c =
    let trace = c.args.trace.now in
    let i = c.args.i in
    let size = length-drop (i + 1) trace in
    let rest = take_all (length trace - (i + 1)) (drop (i + 1) trace) (omega arith) in
    next_told (get_or trace i 0) (drop (i + 1) trace) (i + 1) (length trace) c.map_or.result c.find.result _ (rw rest at c.find.ensures.value) c.map_or.ensures
    (λ at called. search rules) (omega arith)
