use Rattle.std.proofs.Common.{◌≡◌, ℕ, ◌+◌, ◌-◌, ◌*◌, ◌≤◌, List, [], ◌∷◌, ◌++◌, length, take, drop, sym, refl, ap, ◌∙◌, arith}
use Rattle.std.proofs.lemmas.List.{length-take, drop-drop}
use Rattle.paging.specs.Adversary.{once_each}
use Rattle.adversary.proofs.Entered.{begun_list}
use Rattle.adversary.proofs.Gathered.{gather_step, gather_more, gather_all, brought, brought_back}
use Rattle.adversary.proofs.challenge.Challenge.over.Goals as goal

pub loop-page-preserved : goal.loop-page-preserved
loop-page-preserved c =
    let h = c.args.self.h in
    let i = c.loop-page.page-index in
    let list = c.split_at_mut-list.result.0.now in
    let inv = c.loop-page.invariant in
    let r = c.add-n-in-loop-page.ensures in
    let seen = take c.loop-page.n c.loop-page.picked in
    let l = length-take c.loop-page.n c.loop-page.picked in
    let few : length seen ≤ h = omega arith in
    let more = gather_more h seen list i few (omega arith) in (
      r.few,
      c.add-n-in-loop-page.auto.picked ∙ inv.1,
      c.add-n-in-loop-page.auto.seen ∙ inv.2,
      r.marked,
      r.rest ∙ inv.4,
      ap (λ (xs : List ℕ). take h (once_each xs (drop (i + 1) list))) r.after ∙ more ∙ inv.5,
    )

pub returns : goal.returns
returns c =
    let k = c.args.self.k in
    let h = c.args.self.h in
    let within = c.args.self.within in
    let last = c.args.self.next - 1 in
    let row = c.args.row.now in
    let inv = c.loop-page.invariant in
    let split = c.split_at_mut-list.ensures in
    let list = c.split_at_mut-list.result.0.now in
    let picked = c.loop-page.picked in
    let n = c.loop-page.n in
    let l = length-take n picked in
    let few : length (take n picked) ≤ h = omega arith in
    let noted = take c.args.noted (drop (k + 1) row) in
    let m = length-take c.args.noted (drop (k + 1) row) in
    let some : length noted ≤ h = omega arith in
    let first = c.add-n.ensures in
    let joined : take h (once_each (take c.add-n.result c.add-n.new.picked) list) ≡ take h (once_each (take h (once_each noted (last ∷ []))) (take (k + 1) row)) =
    rw (← split.front, ← split.back) (ap (λ (xs : List ℕ). take h (once_each xs list)) first.after) in
    let whole = sym (gather_all h (take n picked) list c.loop-page.page-index few (omega arith)) ∙ inv.5 ∙ joined ∙ gather_step h noted last (take (k + 1) row) some in
    let size : k ≤ length picked = let b = split.back_len in let a = c.add-n.auto.picked in let i = inv.1 in omega arith in
    let at : c.copy_from_slice.new.self ≡ take n picked = c.copy_from_slice.ensures.after in
    let back = brought_back k n list picked split.front_len (omega arith) size in
    let e : k + 1 + k ≡ 2 * k + 1 = omega arith in
    let rest : drop (k + 1 + k) (take n picked ++ drop n list ++ picked) ≡ drop (k + 1 + k) row =
    sym (drop-drop k (k + 1) _) ∙ ap (drop k) back ∙ inv.4 ∙ first.rest ∙ ap (drop k) split.back ∙ drop-drop k (k + 1) row in
    rw at (record {
      over = record {
        position = begun_list c.args.self.next (brought k n list picked split.front_len (omega arith) size ∙ whole);
        last_is = refl;
        shown_is = refl;
        k_is = refl;
        h_is = refl;
        next_is = refl;
        rest = rw e at rest;
      };
    })
