-- The page that a cache shows no more is the first that is found so.
use Rattle.std.proofs.Common.{◌≡◌, ℕ, ◌+◌, cond, List, [], ◌∷◌, Some, true, false, not, refl}
use Rattle.std.specs.List.{find, enumerate_from}
use Rattle.std.specs.Option.{option_map}
use Rattle.paging.specs.Lists.{has}
use Rattle.telling.specs.Told.{gone}

pub gone_found : (before after : List ℕ) (n : ℕ) → option_map (λ p. p.1) (find (λ p. not (has after p.1)) (enumerate_from n before)) ≡ gone before after
unfolding gone
gone_found [] after n = refl
gone_found (page ∷ before) after n =
    elim (has after page) as (λ b. option_map (λ p. p.1) (cond (not b) (Some (n, page)) (find (λ p. not (has after p.1)) (enumerate_from (n + 1) before))) ≡ cond b (gone before after) (Some page))
    [ true ↦ gone_found before after (n + 1) | false ↦ refl ]
