use Rattle.std.proofs.Common.{◌≡◌, suc, ◌<◌, set, refl, ◌∙◌, arith}
use Rattle.adversary.specs.Places.{position_in}
use Rattle.adversary.proofs.Entered.{rest_further, new_back, entered_new, entered_new_over, entered_pick, entered_pick_over}
use Rattle.adversary.proofs.challenge.Challenge.enter.Goals.{then-self-2-via-then-self-2, then-self-2-via-else-self-2+then-self-3}
use Rattle.adversary.proofs.challenge.Challenge.enter.Goals as goal

pub returns-then-self-2 : goal.returns-then-self-2
returns-then-self-2 c =
    let s = c.args.self in
    let row = c.args.row.now in
    let some = c.if-self.true in
    let older = s.older in
    let on : s.listed ≡ s.k → suc s.picks < s.h = λ full.
    elim c.then-self-2.branch [
      | then-self-2-via-then-self-2 w ↦ let t = w.if-self-2.true in absurd (omega arith)
      | then-self-2-via-else-self-2+then-self-3 w ↦ let t = w.if-self-3.true in omega arith
    ]
    in
    rw (c.requires.new some).0 (record {
      moved = record {
        position = entered_new s.k s.h s.next s.listed s.noted s.picks row c.requires.long some on;
        last_is = refl;
        shown_is = refl;
        k_is = refl;
        h_is = refl;
        begun = omega arith;
        rest = rest_further s.k (set row s.listed s.next) row (new_back s.k s.h s.next s.listed s.noted s.picks row c.requires.long some);
      };
    })

pub returns-then-self : goal.returns-then-self
returns-then-self c =
    let s = c.args.self in
    let row = c.args.row.now in
    let some = c.if-self.true in
    let older = s.older in
    let is = (c.requires.new some).0 in
    let o = rw is at c.over.ensures.over in
    let n = o.next_is in
    rw is (record {
      moved = record {
        position =
            entered_new_over s.k s.h s.next s.listed s.noted s.picks row c.requires.long some
            (position_in c.over.result c.over.new.row) (omega arith) (omega arith) o.position;
        last_is = o.last_is;
        shown_is = o.shown_is;
        k_is = o.k_is;
        h_is = o.h_is;
        begun = omega arith;
        rest = o.rest ∙ rest_further s.k (set row s.listed s.next) row (new_back s.k s.h s.next s.listed s.noted s.picks row c.requires.long some);
      };
    })

pub returns-then-self-4 : goal.returns-then-self-4
returns-then-self-4 c =
    let s = c.args.self in
    let row = c.args.row.now in
    let full = s.full in
    let older = s.older in
    let n = c.note-noted.ensures in
    record {
      moved = record {
        position =
            entered_pick s.k s.h s.next s.listed s.noted s.picks row c.requires.long (omega arith) c.args.page c.note-noted.result
            c.note-noted.new.row n.after n.front (omega arith);
        last_is = refl;
        shown_is = refl;
        k_is = refl;
        h_is = refl;
        begun = omega arith;
        rest = n.rest;
      };
    }

pub returns : goal.returns
returns c =
    let s = c.args.self in
    let row = c.args.row.now in
    let full = s.full in
    let older = s.older in
    let n = c.note-noted.ensures in
    let o = c.over-2.ensures.over in
    let is = o.next_is in
    record {
      moved = record {
        position =
            entered_pick_over s.k s.h s.next s.listed s.noted s.picks row c.requires.long (omega arith) c.args.page c.note-noted.result
            c.note-noted.new.row n.after n.front (position_in c.over-2.result c.over-2.new.row) (omega arith) o.position;
        last_is = o.last_is;
        shown_is = o.shown_is;
        k_is = o.k_is;
        h_is = o.h_is;
        begun = omega arith;
        rest = o.rest ∙ n.rest;
      };
    }
