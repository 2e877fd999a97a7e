-- How long the adversary's lists get while it is played step by step, and that they hold only pages requested before.
use Rattle.std.proofs.Common.{◌≡◌, ℕ, suc, ◌-◌, ◌<◌, ◌≤◌, Bool, true, false, cond, ◌&&◌, ltb, leb, List, [], ◌∷◌, ◌++◌, length, take, refl, arith}
use Rattle.std.proofs.lemmas.List.{length-append, length-take}
use Rattle.std.proofs.lemmas.Bool.Decides.{nat_tests}
use Rattle.paging.specs.Adversary.{first_missing, once_each}
use Rattle.paging.specs.Lists.{has}
use Rattle.paging.specs.Stepwise.{Position, start, complete, next_request, requested, settled, moved, Bounded, StaysBounded}
use Rattle.paging.proofs.Appends.{has_append}
use Rattle.paging.proofs.Fresh.{missing_under, has_once_each, length_once_each}
use Rattle.paging.proofs.Lists.{has_from_take}

-- a request entered; the round may be over
record Entered (k h : ℕ) (p : Position) : Type 0 where
  listed : length p.pages ≤ suc k
  noted : length p.picked ≤ p.picks
  few : (length p.pages ≤ k → p.picks < h)
  some : 0 < p.next
  old : (x : ℕ) → has p.pages x ≡ true → x < p.next
  older : (x : ℕ) → has p.picked x ≡ true → x < p.next

module _ (k h : ℕ) (le : h ≤ k) (pos : 0 < h) where
  ended_old :
      (p : Position) → Entered k h p → (x : ℕ) → has (take h (once_each p.picked ((p.next - 1) ∷ p.pages))) x ≡ true → x < p.next
  unfolding has
  ended_old p b x there =
      let f = has_from_take h (once_each p.picked ((p.next - 1) ∷ p.pages)) x there in
      let o = has_once_each p.picked ((p.next - 1) ∷ p.pages) x in
      let s = b.some in
      let u = b.old x in
      let v = b.older x in
      grind (arith, nat_tests)

  settled_bounded : (p : Position) → Entered k h p → Bounded k h (settled k h p)
  unfolding settled complete has
  settled_bounded p b = go (ltb k (length p.pages) && leb h (suc p.picks)) refl
    where
      go :
          (t : Bool) → (ltb k (length p.pages) && leb h (suc p.picks)) ≡ t →
          Bounded k h
          (cond t (record { next = p.next; pages = take h (once_each p.picked ((p.next - 1) ∷ p.pages)); picked = []; picks = 0 }) p)
      go true e =
          record {
            listed = rw length-take (omega arith);
            noted = omega arith;
            few = pos;
            some = b.some;
            old = ended_old p b;
            older = λ x there. grind (arith, nat_tests);
          }
      go false e =
          let f = b.few in
          record { listed = b.listed; noted = b.noted; few = grind (arith, nat_tests); some = b.some; old = b.old; older = b.older }

  requested_entered : (p : Position) (shown : List ℕ) → Bounded k h p → Entered k h (requested k p (next_request k p shown))
  unfolding requested next_request complete has
  requested_entered p shown b = go (ltb k (length p.pages)) refl
    where
      go :
          (t : Bool) → ltb k (length p.pages) ≡ t →
          Entered k h
          (cond t
          (record { next = p.next; pages = p.pages; picked = once_each p.picked (cond t (first_missing p.pages shown) p.next ∷ []); picks = suc p.picks })
          (record { next = suc p.next; pages = p.pages ++ cond t (first_missing p.pages shown) p.next ∷ []; picked = p.picked; picks = p.picks }))
      go true e =
          let page = first_missing p.pages shown in
          let u = missing_under p.next p.pages shown b.some b.old in
          let n = b.noted in
          let l = length_once_each p.picked (page ∷ []) in
          record {
            listed = b.listed;
            noted = omega arith;
            few = λ room. grind (arith, nat_tests);
            some = b.some;
            old = b.old;
            older = λ x there. let o = has_once_each p.picked (page ∷ []) x in let v = b.older x in grind (arith, nat_tests);
          }
      go false e =
          let f = b.few in
          let a = length-append p.pages (p.next ∷ []) in
          record {
            listed = grind (arith, nat_tests);
            noted = b.noted;
            few = λ _. f;
            some = omega arith;
            old = λ x there. let o = has_append p.pages (p.next ∷ []) x in let v = b.old x in grind (arith, nat_tests);
            older = λ x there. let v = b.older x in grind (arith, nat_tests);
          }

  request_le : (p : Position) (shown : List ℕ) → Bounded k h p → next_request k p shown ≤ p.next
  unfolding next_request
  request_le p shown b = let u = missing_under p.next p.pages shown b.some b.old in grind (arith, nat_tests)

pub stays_bounded : StaysBounded
unfolding start moved has
stays_bounded k h pos le = (
  record { listed = omega arith; noted = omega arith; few = pos; some = omega arith; old = λ x there. grind (arith, nat_tests); older = λ x there. grind (arith, nat_tests) },
  λ p shown b. (request_le k h le pos p shown b, settled_bounded k h le pos (requested k p (next_request k p shown)) (requested_entered k h le pos p shown b)),
)
