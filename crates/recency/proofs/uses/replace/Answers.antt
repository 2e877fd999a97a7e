use Rattle.recency.proofs.Chosen.{chosen, chosen_served, hit_value, evicted_value}
use Rattle.recency.proofs.uses.replace.Goals as goal

pub renew-requires : goal.renew-requires
renew-requires c =
    let b = chosen c.args.k.places c.args.row.now c.args.page c.requires.sound c.args.found c.requires.found in
    record { sound = c.requires.sound; low = rw c.unwrap_or.ensures b.0; high = rw c.unwrap_or.ensures b.1 }

pub returns-in-Some : goal.returns-in-Some
returns-in-Some c =
    let k = c.args.k.places in
    let row = c.args.row.now in
    let s = chosen_served k row c.args.page c.requires.sound c.args.found c.requires.found in
    let value = hit_value k row c.args.page c.requires.sound c.in-Some.field-0 (rw c.in-Some.is at c.requires.found) in
    rw (c.renew.ensures.after, c.unwrap_or.ensures) (record { value = value; after = s.after; sound = s.sound; beyond = s.beyond })

pub returns-in-None : goal.returns-in-None
returns-in-None c =
    let k = c.args.k.places in
    let row = c.args.row.now in
    let s = chosen_served k row c.args.page c.requires.sound c.args.found c.requires.found in
    let value = evicted_value k row c.args.page c.requires.sound (rw c.in-None.is at c.requires.found) in
    rw (c.renew.ensures.after, c.unwrap_or.ensures) (record { value = value; after = s.after; sound = s.sound; beyond = s.beyond })
