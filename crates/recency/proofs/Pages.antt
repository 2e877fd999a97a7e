-- The pages that a row holds, by its ring.
use Rattle.std.proofs.Common.{◌≡◌, ℕ, ◌+◌, ◌<◌, ◌≤◌, true, false, Option, None, Some, MatchOption, List, [], ◌∷◌, map, length, get_or, sym, refl, ap, ◌∙◌, ⊎_elim, arith}
use Rattle.std.specs.Option.{is_some}
use Rattle.std.proofs.lemmas.Bool.Decides.{nat_tests}
use Rattle.std.proofs.lemmas.List.{length-map, get_or_past, get_or-map}
use Rattle.std.proofs.lemmas.Bool.{cases_lt}
use Rattle.paging.specs.Lists.{has}
use Rattle.paging.proofs.Appends.{has_at, has_apart, distinct_cons}
use Rattle.recency.specs.Row.{count, next, prev, held, pages}
use Rattle.recency.specs.Sound.{Linked, Sound}
use Rattle.recency.proofs.Links.{walk_chain, chain_at, chain_first}

pub pages_linked : (n : ℕ) (row order : List ℕ) → Linked n row order → length order ≡ count row → pages row ≡ map (held row) order
unfolding pages
pages_linked n row order linked many =
    rw (← many) (ap (map (held row)) (walk_chain (next row) (prev row) order 0 0 linked.chain))

pub pages_sound : (k : ℕ) (row : List ℕ) (sound : Sound k row) → pages row ≡ map (held row) sound.order
pages_sound k row sound = pages_linked (count row) row sound.order sound.linked sound.many

pub length_pages : (k : ℕ) (row : List ℕ) → Sound k row → length (pages row) ≡ count row
length_pages k row sound = ap length (pages_sound k row sound) ∙ length-map sound.order (held row) ∙ sound.many

-- what stands in a list made from another comes from there
pub has_map : (f : ℕ → ℕ) (xs : List ℕ) (x : ℕ) → has xs x ≡ true → has (map f xs) (f x) ≡ true
unfolding has
has_map f [] x there = there
has_map f (y ∷ xs) x there = let i = has_map f xs x in let e : y ≡ x → f y ≡ f x = ap f in grind (arith, nat_tests)

pub has_map_none :
    (f : ℕ → ℕ) (xs : List ℕ) (z : ℕ) → ((s : ℕ) → has xs s ≡ true → f s ≡ z → ⊥) → has (map f xs) z ≡ false
unfolding has
has_map_none f [] z none = refl
has_map_none f (y ∷ xs) z none =
    let i = has_map_none f xs z (λ s h e. none s (grind (arith, nat_tests)) e) in
    let y-not = none y (grind (arith, nat_tests)) in
    grind (arith, nat_tests)

pub map_same : (f g : ℕ → ℕ) (xs : List ℕ) → ((s : ℕ) → has xs s ≡ true → f s ≡ g s) → map f xs ≡ map g xs
unfolding has
map_same f g [] same = refl
map_same f g (x ∷ xs) same =
    let i = map_same f g xs (λ s h. same s (grind (arith, nat_tests))) in
    let e = same x (grind (arith, nat_tests)) in
    cc

-- slots of the ring are 1 or more
pub linked_low : (n : ℕ) (row order : List ℕ) → Linked n row order → (s : ℕ) → has order s ≡ true → 1 ≤ s
linked_low n row order linked s there =
    let ne = has_apart order s 0 there (distinct_cons 0 order linked.once).0 in
    omega arith

module _ (k : ℕ) (row : List ℕ) (sound : Sound k row) (page : ℕ) where
  pub page_found : (s : ℕ) → 1 ≤ s → s ≤ count row → held row s ≡ page → has (pages row) page ≡ true
  page_found s low high e = rw (pages_sound k row sound, ← e) (has_map (held row) sound.order s (sound.all s low high))

  pub page_missed : ((s : ℕ) → 1 ≤ s → s ≤ count row → held row s ≡ page → ⊥) → has (pages row) page ≡ false
  page_missed none =
      rw (pages_sound k row sound)
      (has_map_none (held row) sound.order page
      (λ s there e. none s (linked_low (count row) row sound.order sound.linked s there) (sound.linked.within s there) e))

  -- what `probe` answers tells whether the page is there
  pub page_there :
      (r : Option ℕ) → MatchOption r ((s : ℕ) → 1 ≤ s → s ≤ count row → held row s ≡ page → ⊥) (λ s. (1 ≤ s) × (s ≤ count row) × (held row s ≡ page)) →
      has (pages row) page ≡ is_some r
  page_there None missed = page_missed missed
  page_there (Some s) found = page_found s found.0 found.1 found.2

-- the ring by place: the slots in order, and the page of each
module _ (k : ℕ) (row : List ℕ) (sound : Sound k row) where
  pub order_first : next row 0 ≡ get_or sound.order 0 0
  order_first = chain_first (next row) (prev row) sound.order 0 sound.linked.chain

  pub order_next : (i : ℕ) → i < count row → next row (get_or sound.order i 0) ≡ get_or sound.order (i + 1) 0
  order_next i lt = let m = sound.many in chain_at (next row) (prev row) sound.order 0 i sound.linked.chain (omega arith)

  pub order_within : (i : ℕ) → get_or sound.order i 0 ≤ k
  order_within i =
      let few = sound.sized.few in
      ⊎_elim (λ lt. omega (arith, sound.linked.within (get_or sound.order i 0) (has_at sound.order i lt)))
      (λ le. omega (arith, get_or_past sound.order i 0 le)) (cases_lt i (length sound.order))

  pub page_at : (i : ℕ) → i < count row → held row (get_or sound.order i 0) ≡ get_or (pages row) i 0
  page_at i lt = let m = sound.many in rw (pages_sound k row sound) (sym (get_or-map (held row) sound.order i 0 0 (omega arith)))
