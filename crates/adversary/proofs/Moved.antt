-- Where the adversary stands after a request, by its tests.
use Rattle.std.proofs.Common.{◌≡◌, ℕ, suc, ◌-◌, ◌<◌, ◌≤◌, true, false, ◌&&◌, ltb, leb, List, [], ◌∷◌, ◌++◌, length, take, ap, ◌∙◌, arith}
use Rattle.std.proofs.lemmas.List.{length-append}
use Rattle.std.proofs.lemmas.Bool.Decides.{nat_tests}
use Rattle.paging.specs.Adversary.{once_each}
use Rattle.paging.specs.Stepwise.{Position, complete, requested, settled, moved}

module _ (k h : ℕ) (p : Position) where
  -- where the round goes on
  settled_on : (ltb k (length p.pages) && leb h (suc p.picks)) ≡ false → settled k h p ≡ p
  unfolding settled complete
  settled_on e = rw e

  settled_over :
      (ltb k (length p.pages) && leb h (suc p.picks)) ≡ true →
      settled k h p ≡ record { next = p.next; pages = take h (once_each p.picked ((p.next - 1) ∷ p.pages)); picked = []; picks = 0 }
  unfolding settled complete
  settled_over e = rw e

module _ (k h next : ℕ) (pages picked : List ℕ) (n : ℕ) where
  abbrev here : Position
  here = record { next = next; pages = pages; picked = picked; picks = n }

  requested_new :
      (page : ℕ) → length pages ≤ k →
      requested k here page ≡ record { next = suc next; pages = pages ++ page ∷ []; picked = picked; picks = n }
  unfolding requested complete
  requested_new page room = let e : ltb k (length pages) ≡ false = grind (arith, nat_tests) in rw e

  requested_pick :
      (page : ℕ) → k < length pages →
      requested k here page ≡ record { next = next; pages = pages; picked = once_each picked (page ∷ []); picks = suc n }
  unfolding requested complete
  requested_pick page all = let e : ltb k (length pages) ≡ true = grind (arith, nat_tests) in rw e

  pub moved_new :
      (page : ℕ) → length pages ≤ k → (length pages ≡ k → suc n < h) →
      moved k h here page ≡ record { next = suc next; pages = pages ++ page ∷ []; picked = picked; picks = n }
  unfolding moved
  moved_new page room on =
      let q : Position = record { next = suc next; pages = pages ++ page ∷ []; picked = picked; picks = n } in
      let a = length-append pages (page ∷ []) in
      let e : (ltb k (length (pages ++ page ∷ [])) && leb h (suc n)) ≡ false = grind (arith, nat_tests) in
      ap (settled k h) (requested_new page room) ∙ settled_on k h q e

  pub moved_new_over :
      (page : ℕ) → length pages ≡ k → h ≤ suc n →
      moved k h here page
      ≡ record { next = suc next; pages = take h (once_each picked ((suc next - 1) ∷ (pages ++ page ∷ []))); picked = []; picks = 0 }
  unfolding moved
  moved_new_over page full end =
      let q : Position = record { next = suc next; pages = pages ++ page ∷ []; picked = picked; picks = n } in
      let a = length-append pages (page ∷ []) in
      let e : (ltb k (length (pages ++ page ∷ [])) && leb h (suc n)) ≡ true = grind (arith, nat_tests) in
      ap (settled k h) (requested_new page (omega arith)) ∙ settled_over k h q e

  pub moved_pick :
      (page : ℕ) → k < length pages → suc (suc n) < h →
      moved k h here page ≡ record { next = next; pages = pages; picked = once_each picked (page ∷ []); picks = suc n }
  unfolding moved
  moved_pick page all on =
      let q : Position = record { next = next; pages = pages; picked = once_each picked (page ∷ []); picks = suc n } in
      let e : (ltb k (length pages) && leb h (suc (suc n))) ≡ false = grind (arith, nat_tests) in
      ap (settled k h) (requested_pick page all) ∙ settled_on k h q e

  pub moved_pick_over :
      (page : ℕ) → k < length pages → h ≤ suc (suc n) →
      moved k h here page
      ≡ record { next = next; pages = take h (once_each (once_each picked (page ∷ [])) ((next - 1) ∷ pages)); picked = []; picks = 0 }
  unfolding moved
  moved_pick_over page all end =
      let q : Position = record { next = next; pages = pages; picked = once_each picked (page ∷ []); picks = suc n } in
      let e : (ltb k (length pages) && leb h (suc (suc n))) ≡ true = grind (arith, nat_tests) in
      ap (settled k h) (requested_pick page all) ∙ settled_over k h q e
