use Rattle.std.proofs.Common.{◌≡◌, ◌-◌, length, sym, refl, rules, arith}
use Rattle.std.proofs.lemmas.List.{take_all}
use Rattle.arrayvec.proofs.ArrayVecLemmas.{items-with_items}
use Rattle.curve.proofs.Stacks.{lifted_found, lifted_absent}
use Rattle.curve.proofs.stack.Stack.request.Goals as goal
use Rattle.curve.proofs.stack.Stack.request.Goals.{then-len-self, else-len-self}

pub returns-in-Some-clause-after : goal.returns-in-Some-clause-after
returns-in-Some-clause-after c =
    let s = c.args.self.now in
    let found = rw c.deref.ensures.0 at c.in-Some.ensures.value in
    rw (items-with_items s.pages c.put_first.new.row (search rules), c.put_first.ensures.shifted, c.deref_mut.ensures.value)
    (lifted_found c.args.page s.pages.items s.capacity.places c.in-Some.at s.few found.0 found.1 (omega arith))

pub returns-clause-after : goal.returns-clause-after
returns-clause-after c =
    let s = c.args.self.now in
    let pages = s.pages.items in
    let absent = rw c.deref.ensures.0 at c.in_default.ensures.value in
    rw c.insert.ensures.items (lifted_absent c.args.page pages _ s.capacity.places s.capacity.some (elim c.if-len-self.branch [
      | then-len-self w ↦ let full : length pages ≡ s.capacity.places = omega arith in rw (w.self-is, w.pop.ensures.rest) (rw full refl)
      | else-len-self w ↦ rw w.self-is (sym (take_all (s.capacity.places - 1) pages (omega arith)))
    ]) absent)
