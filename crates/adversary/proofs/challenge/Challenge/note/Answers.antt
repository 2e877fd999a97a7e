use Rattle.std.proofs.Common.{◌≡◌, ◌+◌, ◌-◌, ◌<◌, take, drop, sym, ◌∙◌, arith}
use Rattle.paging.specs.Lists.{has}
use Rattle.adversary.proofs.Edited.{once_there, once_new, note_after}
use Rattle.adversary.proofs.challenge.Challenge.note.Goals as goal

pub returns-then-holds-clause-after : goal.returns-then-holds-clause-after
returns-then-holds-clause-after c =
    let row = c.args.row.now in
    let k = c.args.self.k in
    let noted = c.args.self.noted in
    let z : k + 1 + noted - (k + 1) ≡ noted = omega arith in
    let v : c.holds.result ≡ has (take (k + 1 + noted - (k + 1)) (drop (k + 1) row)) c.args.page = c.holds.ensures.value in
    let there = sym (rw z at v) ∙ c.if-holds.true in
    sym (once_there (take noted (drop (k + 1) row)) c.args.page there)

pub returns-clause-after : goal.returns-clause-after
returns-clause-after c =
    let row = c.args.row.now in
    let s = c.args.self in
    let k = s.k in
    let noted = s.noted in
    let each = s.each in
    let few = s.few in
    let within = s.within in
    let z : k + 1 + noted - (k + 1) ≡ noted = omega arith in
    let v : c.holds.result ≡ has (take (k + 1 + noted - (k + 1)) (drop (k + 1) row)) c.args.page = c.holds.ensures.value in
    let absent = sym (rw z at v) ∙ c.if-holds.false in
    let room : noted < k = omega arith in
    note_after row k noted c.args.page c.requires.long room ∙ sym (once_new (take noted (drop (k + 1) row)) c.args.page absent)
