use Rattle.std.proofs.Common.{ℕ, List, ◌∷◌, length, sym, ap, ◌∙◌, arith}
use Rattle.std.specs.List.{remove}
use Rattle.std.proofs.lemmas.List.{with_items_is}
use Rattle.least_requested.proofs.Requests.{goes, goes_once}
use Rattle.least_requested.proofs.LeastRequestedPolicy.serve.Goals as goal

pub invariant_of-self-clause-once : goal.invariant_of-self-clause-once
invariant_of-self-clause-once c =
    let s = c.args.self.now in
    let at = c.place_for-at.result.0 in
    let p = with_items_is s.pages c.put_first.new.row (c.put_first.auto.row ∙ c.deref_mut.ensures.len) in
    let q = with_items_is s.counts c.put_first-2.new.row (c.put_first-2.auto.row ∙ c.deref_mut-2.ensures.len) in
    let a = p ∙ c.put_first.ensures.after ∙ ap (λ (xs : List ℕ). c.args.page ∷ remove xs at) c.deref_mut.ensures.value in
    let b = q ∙ c.put_first-2.ensures.after ∙ ap (λ (xs : List ℕ). c.place_for-at.result.1 ∷ remove xs at) c.deref_mut-2.ensures.value in
    let long = sym s.pages.ok.0 ∙ s.long in
    let level = sym s.counts.ok.0 ∙ s.level ∙ s.pages.ok.0 in
    let level' = ap length q ∙ c.put_first-2.auto.row ∙ c.deref_mut-2.ensures.len ∙ s.level ∙ sym (ap length p ∙ c.put_first.auto.row ∙ c.deref_mut.ensures.len) in
    goes_once s.capacity.places s.count at c.max-self.result c.args.page c.place_for-at.result.1 s.pages.items s.counts.items _ _ long level s.few (omega arith)
    c.place_for-at.ensures.few c.place_for-at.ensures.within c.max-self.ensures a b c.place_for-at.ensures.after level' s.once

pub returns : goal.returns
returns c =
    let s = c.args.self.now in
    let at = c.place_for-at.result.0 in
    let p = with_items_is s.pages c.put_first.new.row (c.put_first.auto.row ∙ c.deref_mut.ensures.len) in
    let q = with_items_is s.counts c.put_first-2.new.row (c.put_first-2.auto.row ∙ c.deref_mut-2.ensures.len) in
    let a = p ∙ c.put_first.ensures.after ∙ ap (λ (xs : List ℕ). c.args.page ∷ remove xs at) c.deref_mut.ensures.value in
    let b = q ∙ c.put_first-2.ensures.after ∙ ap (λ (xs : List ℕ). c.place_for-at.result.1 ∷ remove xs at) c.deref_mut-2.ensures.value in
    let long = sym s.pages.ok.0 ∙ s.long in
    let level = sym s.counts.ok.0 ∙ s.level ∙ s.pages.ok.0 in
    record {
      after = goes s.capacity.places s.count at c.max-self.result c.args.page c.place_for-at.result.1 s.pages.items s.counts.items _ _ long level s.few (omega arith)
          c.place_for-at.ensures.few c.place_for-at.ensures.within c.max-self.ensures a b c.place_for-at.ensures.after;
    }
