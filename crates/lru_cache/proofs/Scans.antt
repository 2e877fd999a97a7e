-- The search for a page that stands twice or is too large, one page on.
use Rattle.std.proofs.Common.{◌≡◌, ℕ, suc, ◌+◌, ◌^◌, ◌<◌, ◌≤◌, true, false, cond, ◌||◌, leb, List, ◌∷◌, length, get_or, drop, Some, None, ◌∙◌, arith}
use Rattle.std.proofs.lemmas.List.{at_drop_more, at_drop_all}
use Rattle.std.proofs.lemmas.Bool.{le-leb, lt-leb}
use Rattle.std.proofs.lemmas.Bool.Decides.{nat_tests}
use Rattle.paging.specs.Lists.{has}
use Rattle.lru_cache.specs.Rows.{first_bad, first_wide}
use Rattle.lru_cache.specs.declared.refusals.Refusal.TheVariants.{BadPage, BadRequest}

module _ (seen pages : List ℕ) (i : ℕ) where
  abbrev rest : ℕ
  rest = get_or pages i 0

  scan_here : i < length pages →
      first_bad (2 + i) seen (drop i pages)
      ≡ cond (has seen rest || leb (2 ^ 32) rest) (Some (BadPage (2 + i))) (first_bad (suc (2 + i)) (rest ∷ seen) (drop (i + 1) pages))
  unfolding first_bad
  scan_here lt = at_drop_more (first_bad (2 + i) seen) pages i 0 lt

  pub scan_wide : i < length pages → 2 ^ 32 ≤ rest → first_bad (2 + i) seen (drop i pages) ≡ Some (BadPage (2 + i))
  scan_wide lt wide = let h = scan_here lt in let w = le-leb (2 ^ 32) rest wide in grind (arith, nat_tests)

  pub scan_twice : i < length pages → has seen rest ≡ true → first_bad (2 + i) seen (drop i pages) ≡ Some (BadPage (2 + i))
  scan_twice lt there = let h = scan_here lt in grind (arith, nat_tests)

  pub scan_more :
      i < length pages → rest < 2 ^ 32 → has seen rest ≡ false → first_bad (2 + i) seen (drop i pages) ≡ first_bad (2 + (i + 1)) (rest ∷ seen) (drop (i + 1) pages)
  scan_more lt small absent =
      let h = scan_here lt in
      let w = lt-leb (2 ^ 32) rest small in
      let e : suc (2 + i) ≡ 2 + (i + 1) = omega arith in
      rw (← e) (simp (absent, w) at h)

  pub scan_all : length pages ≤ i → first_bad (2 + i) seen (drop i pages) ≡ None
  unfolding first_bad
  scan_all end = at_drop_all (first_bad (2 + i) seen) pages i end

-- the search for a request that is too large
module _ (trace : List ℕ) (i : ℕ) where
  wide_here : i < length trace →
      first_wide (drop i trace) ≡ cond (leb (2 ^ 32) (get_or trace i 0)) (Some (BadRequest (get_or trace i 0))) (first_wide (drop (i + 1) trace))
  unfolding first_wide
  wide_here lt = at_drop_more first_wide trace i 0 lt

  pub wide_found : i < length trace → 2 ^ 32 ≤ get_or trace i 0 → first_wide (drop i trace) ≡ Some (BadRequest (get_or trace i 0))
  wide_found lt wide = wide_here lt ∙ simp (le-leb (2 ^ 32) (get_or trace i 0) wide)

  pub wide_more : i < length trace → get_or trace i 0 < 2 ^ 32 → first_wide (drop i trace) ≡ first_wide (drop (i + 1) trace)
  wide_more lt small = wide_here lt ∙ simp (lt-leb (2 ^ 32) (get_or trace i 0) small)

  pub wide_all : length trace ≤ i → first_wide (drop i trace) ≡ None
  unfolding first_wide
  wide_all end = at_drop_all first_wide trace i end
