-- The test for a well formed index row says what `Sound` says.
use Rattle.std.proofs.Common.{◌≡◌, ℕ, zero, suc, ◌*◌, ◌<◌, ◌≤◌, Bool, true, ◌⊎◌, List, [], ◌∷◌, length, sym, refl, ap, ◌∙◌, inl, inr, arith}
use Rattle.std.proofs.lemmas.Bool.{and_parts, and_from, eq-eqb, eqb-true, cases_eq}
use Rattle.std.proofs.lemmas.Bool.Decides.{nat_tests}
use Rattle.std.specs.Prelude.{slice_index}
use Rattle.paging.specs.Lists.{has}
use Rattle.recency.specs.Row.{count, next, prev, lead, behind_at, door, walk, homed, home_of}
use Rattle.recency.specs.Sound.{Chain, Led, Finds, Sized, Sound}
use Rattle.recency.proofs.Links.{walk_chain}
use Rattle.policies.specs.Whole.{every, chained, at_most, ring, led, led_chain, sized, linked_slot, linked, whole}

module _ (p : ℕ → Bool) where
  every_at : (n : ℕ) → every n p ≡ true → (q : ℕ) → q < n → p q ≡ true
  unfolding every
  every_at zero h q lt = absurd (omega arith)
  every_at (suc n) h q lt =
      let e = and_parts (p n) (every n p) h in
      go (every_at n e.1) e.0 (cases_eq q n)
    where
      go : ((q : ℕ) → q < n → p q ≡ true) → p n ≡ true → (q ≡ n) ⊎ (q ≡ n → ⊥) → p q ≡ true
      go below here (inl same) = ap p same ∙ here
      go below here (inr other) = below q (omega arith)

  every_from : (n : ℕ) → ((q : ℕ) → q < n → p q ≡ true) → every n p ≡ true
  unfolding every
  every_from zero h = refl
  every_from (suc n) h = and_from (p n) (every n p) (h n (omega arith)) (every_from n (λ q lt. h q (omega arith)))

module _ (f g : ℕ → ℕ) where
  chain_from : (slots : List ℕ) (a b : ℕ) → chained f g a slots b ≡ true → Chain f g a slots b
  unfolding chained Chain
  chain_from [] a b h = let e = and_parts _ _ h in (eqb-true (f a) b e.0, eqb-true (g b) a e.1)
  chain_from (s ∷ slots) a b h =
      let e = and_parts _ _ h in
      let d = and_parts _ _ e.1 in
      (eqb-true (f a) s e.0, eqb-true (g s) a d.0, chain_from slots s b d.1)

  chained_from : (slots : List ℕ) (a b : ℕ) → Chain f g a slots b → chained f g a slots b ≡ true
  unfolding chained Chain
  chained_from [] a b c = and_from _ _ (eq-eqb (f a) b c.0) (eq-eqb (g b) a c.1)
  chained_from (s ∷ slots) a b c = and_from _ _ (eq-eqb (f a) s c.0) (and_from _ _ (eq-eqb (g s) a c.1) (chained_from slots s b c.2))

module _ (row : List ℕ) where
  led_is : (slots : List ℕ) (at : ℕ) → led row at slots ≡ true → Led row at slots
  unfolding led Led
  led_is [] at h = eqb-true (slice_index row at) 0 h
  led_is (s ∷ slots) at h =
      let e = and_parts _ _ h in
      let d = and_parts _ _ e.1 in
      (eqb-true (slice_index row at) s e.0, eqb-true (lead row s) at d.0, led_is slots (behind_at s) d.1)

  led_from : (slots : List ℕ) (at : ℕ) → Led row at slots → led row at slots ≡ true
  unfolding led Led
  led_from [] at l = eq-eqb (slice_index row at) 0 l
  led_from (s ∷ slots) at l =
      and_from _ _ (eq-eqb (slice_index row at) s l.0) (and_from _ _ (eq-eqb (lead row s) at l.1) (led_from slots (behind_at s) l.2))

at_most_at : (n : ℕ) (slots : List ℕ) → at_most n slots ≡ true → (s : ℕ) → has slots s ≡ true → s ≤ n
unfolding at_most has
at_most_at n [] h s there = let z : ◌≡◌ {A = ℕ} 0 1 = cc in omega arith
at_most_at n (x ∷ xs) h s there = let i = at_most_at n xs in let j : at_most n xs ≡ true → has xs s ≡ true → s ≤ n = λ a b. i a s b in grind (arith, nat_tests)

at_most_from : (n : ℕ) (slots : List ℕ) → ((s : ℕ) → has slots s ≡ true → s ≤ n) → at_most n slots ≡ true
unfolding at_most has
at_most_from n [] h = refl
at_most_from n (x ∷ xs) h =
    let first : x ≤ n = h x (grind (arith, nat_tests)) in
    let rest = at_most_from n xs (λ s there. h s (grind (arith, nat_tests))) in
    grind (arith, nat_tests)

length_walk : (n : ℕ) (f : ℕ → ℕ) (s : ℕ) → length (walk n f s) ≡ n
unfolding walk
length_walk zero f s = refl
length_walk (suc n) f s = ap suc (length_walk n f (f s))

module _ (k : ℕ) (row : List ℕ) where
  sized_from : Sized k row → sized k row ≡ true
  unfolding sized
  sized_from s =
      let a = s.low in
      let b = s.high in
      let c = s.long in
      let d = s.few in
      grind (arith, nat_tests)

  sized_is : sized k row ≡ true → Sized k row
  unfolding sized
  sized_is h =
      record { low = grind (arith, nat_tests); high = grind (arith, nat_tests); long = grind (arith, nat_tests); few = grind (arith, nat_tests) }

  slots_in : (order : List ℕ) → every (count row) (linked_slot order) ≡ true → (s : ℕ) → 1 ≤ s → s ≤ count row → has order s ≡ true
  slots_in order h zero low high = absurd (omega arith)
  slots_in order h (suc n) low high = every_at (linked_slot order) (count row) h n (omega arith)

  finds_is : (order : List ℕ) → every (4 * k) (led_chain k row order) ≡ true → Finds k row order
  finds_is order e h lt = led_is row (homed (home_of k row) h order) (door k h) (every_at (led_chain k row order) (4 * k) e h lt)

  finds_from : (order : List ℕ) → Finds k row order → every (4 * k) (led_chain k row order) ≡ true
  finds_from order f =
      every_from (led_chain k row order) (4 * k) (λ h lt. led_from row (homed (home_of k row) h order) (door k h) (f h lt))

  pub sound_from : whole k row ≡ true → Sound k row
  unfolding whole linked
  sound_from h =
      let order = ring row in
      let a = and_parts _ _ h in
      let b = and_parts _ _ a.1 in
      let chain = and_parts _ _ b.0 in
      let once = and_parts _ _ chain.1 in
      let within = and_parts _ _ once.1 in
      let all = and_parts _ _ within.1 in
      record {
        sized = sized_is a.0;
        order = order;
        linked = record { chain = chain_from (next row) (prev row) order 0 0 chain.0; once = once.0; within = at_most_at (count row) order within.0 };
        many = length_walk (count row) (next row) (next row 0);
        all = slots_in order all.0;
        once = all.1;
        finds = finds_is order b.1;
      }

  linked_from : (s : Sound k row) → linked row s.order ≡ true
  unfolding linked
  linked_from s =
      and_from _ _ (chained_from (next row) (prev row) s.order 0 0 s.linked.chain)
      (and_from _ _ s.linked.once
      (and_from _ _ (at_most_from (count row) s.order s.linked.within)
      (and_from _ _ (every_from (linked_slot s.order) (count row) (λ n lt. s.all (suc n) (omega arith) (omega arith))) s.once)))

  pub whole_from : Sound k row → whole k row ≡ true
  unfolding whole
  whole_from s =
      let same : ring row ≡ s.order =
      ap (λ (n : ℕ). walk n (next row) (next row 0)) (sym s.many) ∙ walk_chain (next row) (prev row) s.order 0 0 s.linked.chain in
      and_from _ _ (sized_from s.sized) (rw same (and_from _ _ (linked_from s) (finds_from s.order s.finds)))
