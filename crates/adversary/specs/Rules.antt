-- The rules of a cache, and the place where what is shown breaks them first. Assumes nothing: these are definitions.
--     first_odd at seen allowed xs     the place of the first of xs, which stand from `at` on, that is among those before it or is not allowed
--     lacking asked shown              where the page asked for is not shown, how many are
--     broken k asked before shown      where a cache of k places, that showed before and was asked for a page, breaks the rules by what it
--                                      shows now; before the first request nothing was asked, and nothing may be shown
--     Marks k index pages              the index finds exactly these pages
use Rattle.std.specs.Prelude.{◌≡◌, ℕ, suc, ◌≤◌, cond, not, ◌||◌, List, [], ◌∷◌, ◌++◌, length, Some, None, Option, nat_le}
use Rattle.paging.specs.Lists.{has}
use Rattle.recency.specs.Row as recent
use Rattle.recency.specs.Sound.{Sound}

unfoldable pub first_odd : ℕ → List ℕ → List ℕ → List ℕ → Option ℕ
first_odd at seen allowed [] = None
first_odd at seen allowed (x ∷ xs) = cond (has seen x || not (has allowed x)) (Some at) (first_odd (suc at) (x ∷ seen) allowed xs)

abbrev pub lacking : List ℕ → List ℕ → Option ℕ
lacking [] shown = None
lacking (page ∷ pages) shown = cond (has shown page) None (Some (length shown))

abbrev pub or_else : Option ℕ → Option ℕ → Option ℕ
or_else None p = p
or_else (Some p) q = Some p

unfoldable pub broken : ℕ → List ℕ → List ℕ → List ℕ → Option ℕ
broken k asked before shown =
    cond (nat_le (length shown) k) (or_else (first_odd 0 [] (asked ++ before) shown) (lacking asked shown)) (Some (length shown))

pub record Marks (k : ℕ) (index pages : List ℕ) : Type 0 where
  pub sound : Sound k index
  pub same : (x : ℕ) → has (recent.pages index) x ≡ has pages x
  pub few : length (recent.pages index) ≤ length pages
