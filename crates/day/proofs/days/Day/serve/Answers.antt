use Rattle.std.proofs.Common.{◌≡◌, length, refl, arith}
use Rattle.day.proofs.Keeping.{kept_small}
use Rattle.day.proofs.days.Day.serve.Goals as goal

pub invariant_of-self-clause-small : goal.invariant_of-self-clause-small
invariant_of-self-clause-small c =
    let k = c.keep-self.ensures in
    kept_small _ _ _ _ k.after c.args.self.now.small k.small

pub returns-clause-went : goal.returns-clause-went
returns-clause-went c =
    let k = c.keep-self.ensures in
    let long : length c.args.self.now.first ≡ 4096 = omega arith in
    let s = c.serve_bytes.ensures in
    record { same = s.capacity; after = s.after; first = rw long at k.after; total = k.value; reported = refl }
