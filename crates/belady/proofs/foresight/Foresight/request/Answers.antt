use Rattle.std.proofs.Common.{not, sym, refl, ap, arith}
use Rattle.std.proofs.lemmas.List.{length-take}
use Rattle.belady.proofs.Comings.{stepped_comes}
use Rattle.belady.proofs.Keeping.{stepped_found}
use Rattle.belady.proofs.foresight.Foresight.request.Goals as goal

pub returns-in-Some : goal.returns-in-Some
returns-in-Some c =
    let s = c.args.self.now in
    let found = rw c.cache.ensures.value at c.in-Some.ensures.value in
    let len = length-take s.len s.pages in
    let is-next = c.requires.next c.args.i c.requires.within in
    let t = stepped_found _ _ _ _ _ _ c.requires.ready c.requires.within (omega arith) _ is-next (omega arith) _ found.1 (omega arith) in
    record { value = sym (ap not found.0); after = t.after; shows = t.shows; places = refl; ready = t.kept }

pub returns : goal.returns
returns c =
    let absent = rw c.cache.ensures.value at c.in_default.ensures.value in
    let is-next = c.requires.next c.args.i c.requires.within in
    let t =
    stepped_comes _ _ _ _ _ _ c.requires.ready c.requires.within (omega arith) (omega arith) _ is-next absent _ c.place_for-end.ensures.value _ _ _
    c.put_first.ensures.shifted c.put_first-2.ensures.shifted c.min-self.ensures in
    record { value = sym (ap not absent); after = t.after; shows = t.shows; places = refl; ready = t.kept }
