use Rattle.std.proofs.Common.{◌≡◌, length, set, ◌∙◌, arith, rules}
use Rattle.std.proofs.lemmas.List.{get_or-set_same, get_or-set_other, length-set, drop-set-lt}
use Rattle.recency.proofs.Emptied.{emptied}
use Rattle.recency.proofs.uses.reset.Goals as goal

pub returns : goal.returns
returns c =
    let k = c.args.k.places in
    let w = c.wipe.ensures in
    let long = c.requires.long in
    let sets : length (set (set (set c.args.row.now 0 0) 1 0) 3 0) ≡ length c.args.row.now = simp length-set in
    let len = w.len in
    record {
      after = emptied k c.args.row.now c.wipe.new.row c.args.k.some c.args.k.most (omega arith)
          (w.same 3 (omega arith) ∙ grind (arith, get_or-set_same, get_or-set_other, length-set))
          (w.same 0 (omega arith) ∙ grind (arith, get_or-set_same, get_or-set_other, length-set))
          (w.same 1 (omega arith) ∙ grind (arith, get_or-set_same, get_or-set_other, length-set)) w.empty
          (w.beyond ∙ search (rules, drop-set-lt));
    }
