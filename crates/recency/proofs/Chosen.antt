-- The slot that a request takes: that of its page, or of the page used longest ago.
use Rattle.std.proofs.Common.{◌≡◌, ℕ, ◌≤◌, true, false, ◌⊎◌, Option, None, Some, MatchOption, List, sym, ap, ◌∙◌, ⊎_elim, arith}
use Rattle.std.proofs.lemmas.Bool.{true≢false}
use Rattle.std.specs.Option.{unwrap_or, is_some}
use Rattle.paging.specs.Lists.{has}
use Rattle.recency.specs.Outcome.{outcome}
use Rattle.recency.specs.Row.{count, held, prev, pages, renewed}
use Rattle.recency.specs.Sound.{Sound}
use Rattle.recency.specs.declared.uses.Outcome.TheVariants.{Hit, Evicted}
use Rattle.recency.proofs.Freed.{renewed_hit}
use Rattle.recency.proofs.Oldest.{last_low, last_high, oldest_page, evicted}
use Rattle.recency.proofs.Outcomes.{outcome_hit, outcome_evicted}
use Rattle.recency.proofs.Pages.{page_found, page_missed, length_pages}
use Rattle.recency.proofs.Served.{Served}

module _ (k : ℕ) (row : List ℕ) (page : ℕ) (sound : Sound k row) where
  abbrev Known : Option ℕ → Type 0
  Known found = MatchOption found ((count row ≡ k) × (has (pages row) page ≡ false)) (λ s. (1 ≤ s) × (s ≤ count row) × (held row s ≡ page))

  some : count row ≡ k → 1 ≤ count row
  some full = omega (arith, sound.sized.low)

  pub chosen : (found : Option ℕ) → Known found → (1 ≤ unwrap_or found (prev row 0)) × (unwrap_or found (prev row 0) ≤ count row)
  chosen None known = (last_low k row sound (some known.0), last_high k row sound (some known.0))
  chosen (Some s) known = (known.0, known.1)

  pub chosen_served : (found : Option ℕ) → Known found → Served k row page (renewed k row (unwrap_or found (prev row 0)) page)
  chosen_served None known = evicted k row sound (some known.0) page known.0 known.1
  chosen_served (Some s) known = renewed_hit k row sound s known.0 known.1 page known.2

  pub hit_value : (s : ℕ) → Known (Some s) → Hit ≡ outcome k (pages row) page
  hit_value s known = outcome_hit k (pages row) page (page_found k row sound page s known.0 known.1 known.2)

  pub evicted_value : Known None → Evicted (held row (prev row 0)) ≡ outcome k (pages row) page
  evicted_value known =
      ap Evicted (oldest_page k row sound (some known.0))
      ∙ outcome_evicted k (pages row) page known.1 (omega (arith, length_pages k row sound, known.0))

  -- what the search and the test that goes before have shown
  pub known :
      (found : Option ℕ) →
      MatchOption found ((s : ℕ) → 1 ≤ s → s ≤ count row → held row s ≡ page → ⊥) (λ s. (1 ≤ s) × (s ≤ count row) × (held row s ≡ page)) →
      (k ≤ count row) ⊎ (is_some found ≡ true) → Known found
  known None missed either =
      (⊎_elim (λ full. omega (arith, sound.sized.few)) (λ e. absurd (true≢false (sym e))) either, page_missed k row sound page missed)
  known (Some s) found either = found
