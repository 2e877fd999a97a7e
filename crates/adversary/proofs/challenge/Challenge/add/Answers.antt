use Rattle.std.proofs.Common.{rules, ◌≡◌, [], ◌∷◌, take, sym, refl, ◌∙◌, arith}
use Rattle.std.proofs.lemmas.List.{length-take, take_more_set, drop-set-lt}
use Rattle.recency.specs.Row as recent
use Rattle.recency.specs.declared.uses.Outcome.TheVariants.{Hit}
use Rattle.lru_cache.proofs.Hits.{hit_there, no_hit_absent}
use Rattle.adversary.proofs.Edited.{once_there, once_new}
use Rattle.adversary.proofs.Gathered.{marks_again, gather_room, gather_full}
use Rattle.adversary.proofs.Marked.{marks_push}
use Rattle.adversary.proofs.challenge.Challenge.add.Goals as goal
use Rattle.adversary.proofs.challenge.Challenge.add.Goals.{then-noted-self-via-then-noted-self, then-noted-self-via-else-noted-self+then-eq}

pub returns-then-noted-self : goal.returns-then-noted-self
returns-then-noted-self c =
    let s = c.args.self in
    let page = c.args.page in
    let noted = take c.args.noted c.args.picked.now in
    let l = length-take c.args.noted c.args.picked.now in
    let within = s.within in
    let m = c.requires.marked in
    elim c.then-noted-self.branch [
      | then-noted-self-via-then-noted-self w ↦
          let full = w.if-noted-self.true in
          let after = sym (gather_full s.h noted page (page ∷ []) (omega arith)) in
          rw w.seen-is (record { few = omega arith; after = after; marked = m; rest = refl })
      | then-noted-self-via-else-noted-self+then-eq w ↦
          let room = w.if-noted-self.false in
          let r = w.request.ensures in
          let hit : w.request.result ≡ Hit = search rules in
          let marked = hit_there s.k (recent.pages c.args.seen.now) page (sym hit ∙ r.value) in
          let there = sym (m.same page) ∙ marked in
          rw w.seen-is (record {
            few = omega arith;
            after = sym (gather_room s.h noted page (omega arith) ∙ once_there noted page there);
            marked = marks_again s.k c.args.seen.now noted page w.request.new.row m (omega arith) marked r.after r.sound;
            rest = refl;
          })
    ]

pub returns : goal.returns
returns c =
    let s = c.args.self in
    let page = c.args.page in
    let picked = c.args.picked.now in
    let noted = take c.args.noted picked in
    let l = length-take c.args.noted picked in
    let within = s.within in
    let m = c.requires.marked in
    let r = c.request.ensures in
    let not_hit : c.request.result ≡ Hit → ⊥ = λ h. search rules in
    let unmarked = no_hit_absent s.k (recent.pages c.args.seen.now) page c.request.result r.value not_hit in
    let absent = sym (m.same page) ∙ unmarked in
    let after = take_more_set picked c.args.noted page (omega arith) in
    record {
      few = omega arith;
      after = after ∙ sym (gather_room s.h noted page (omega arith) ∙ once_new noted page absent);
      marked = rw after (marks_push s.k c.args.seen.now noted page c.request.new.row m (omega arith) r.after r.sound);
      rest = drop-set-lt s.k picked c.args.noted page (omega arith);
    }
