-- When a cache row is one: what the search for a bad page shows, and back.
use Rattle.std.proofs.Common.{◌≡◌, ℕ, suc, ◌^◌, ◌<◌, ◌≤◌, Bool, true, false, cond, ◌||◌, leb, List, [], ◌∷◌, get_or, Some, None, Option, refl, ap, arith}
use Rattle.std.proofs.lemmas.Bool.{le-leb, lt-leb}
use Rattle.std.proofs.lemmas.Bool.Decides.{nat_tests}
use Rattle.paging.specs.Lists.{has, distinct}
use Rattle.lru_cache.specs.Rows.{capacity, cached, shaped, first_bad, fault}
use Rattle.lru_cache.specs.Promises.{Small}
use Rattle.lru_cache.specs.declared.refusals.Refusal.{Refusal}
use Rattle.lru_cache.specs.declared.refusals.Refusal.TheVariants.{NoCache, Overfull, BadPage}

module _ (row : List ℕ) (m : ℕ) where
  pub fault_unshaped : shaped row m ≡ false → fault row m ≡ Some NoCache
  unfolding fault
  fault_unshaped bad = simp bad

  pub fault_overfull : shaped row m ≡ true → capacity row < get_or row 1 0 → fault row m ≡ Some Overfull
  unfolding fault
  fault_overfull good over = simp (good, lt-leb (get_or row 1 0) (capacity row) over)

  pub fault_pages : shaped row m ≡ true → get_or row 1 0 ≤ capacity row → fault row m ≡ first_bad 2 [] (cached row)
  unfolding fault
  fault_pages good few = simp (good, le-leb (get_or row 1 0) (capacity row) few)

-- no page is bad: each is small, and none stands before
pub none_bad : (t : Bool) (e : Refusal) (o : Option Refusal) → cond t (Some e) o ≡ None → (t ≡ false) × (o ≡ None)
none_bad true e o is = let z : ◌≡◌ {A = ℕ} 0 1 = cc in absurd (omega arith)
none_bad false e o is = (refl, is)

pub record Fine (seen xs : List ℕ) : Type 0 where
  pub once : distinct xs ≡ true
  pub small : Small xs
  pub apart : (x : ℕ) → has xs x ≡ true → has seen x ≡ false

pub fine : (at : ℕ) (seen xs : List ℕ) → first_bad at seen xs ≡ None → Fine seen xs
unfolding first_bad has distinct
fine at seen [] is = record { once = refl; small = λ x there. absurd (grind (arith, nat_tests)); apart = λ x there. absurd (grind (arith, nat_tests)) }
fine at seen (y ∷ ys) is =
    let now-none = none_bad (has seen y || leb (2 ^ 32) y) (BadPage at) (first_bad (suc at) (y ∷ seen) ys) is in
    let rest = fine (suc at) (y ∷ seen) ys now-none.1 in
    let here = now-none.0 in
    let o = rest.once in
    let ap-y = rest.apart y in
    record {
      once = grind (arith, nat_tests);
      small = λ x there. (let s = rest.small x in grind (arith, nat_tests));
      apart = λ x there. (let a = rest.apart x in let e : y ≡ x → has seen y ≡ has seen x = ap (has seen) in grind (arith, nat_tests));
    }

pub fine_none : (at : ℕ) (seen xs : List ℕ) → Fine seen xs → first_bad at seen xs ≡ None
unfolding first_bad has distinct
fine_none at seen [] f = refl
fine_none at seen (y ∷ ys) f =
    let o = f.once in
    let s = f.small y in
    let a = f.apart y in
    let rest : Fine (y ∷ seen) ys =
    record {
      once = grind (arith, nat_tests);
      small = λ x there. f.small x (grind (arith, nat_tests));
      apart = λ x there. (let b = f.apart x in let e : y ≡ x → has ys y ≡ has ys x = ap (has ys) in grind (arith, nat_tests));
    } in
    let i = fine_none (suc at) (y ∷ seen) ys rest in
    grind (arith, nat_tests)
