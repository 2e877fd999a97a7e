use Rattle.std.proofs.Common.{ℕ, List, ◌∷◌, ap, ◌∙◌, arith}
use Rattle.std.specs.List.{remove}
use Rattle.std.proofs.lemmas.List.{with_items_is}
use Rattle.fifo.proofs.Rules.{comes}
use Rattle.fifo.proofs.FifoPolicy.serve.Goals as goal

pub returns : goal.returns
returns c =
    let s = c.args.self.now in
    let filled = with_items_is s.pages c.put_first.new.row (c.put_first.auto.row ∙ c.deref_mut.ensures.len) in
    let after = filled ∙ c.put_first.ensures.after ∙ ap (λ (xs : List ℕ). c.args.page ∷ remove xs c.min-last.result) c.deref_mut.ensures.value in
    record { after = comes s.capacity.places c.args.page s.count c.min-last.result s.pages.items _ (cc) (omega arith) (omega (arith, s.pages.ok.0, s.long)) (omega arith) after }
