-- The schedule's cache after a new page, written page by page.
use Rattle.std.proofs.Common.{◌≡◌, ℕ, suc, ◌+◌, ◌<◌, ◌≤◌, cond, ltb, List, [], ◌∷◌, length, get_or, drop, set, ap, ◌∙◌, arith}
use Rattle.std.proofs.lemmas.List.{at_drop_more, at_drop_all}
use Rattle.std.proofs.lemmas.Bool.{lt-ltb, le-ltb}
use Rattle.paging.specs.Adversary.{below, held}
use Rattle.lru_cache.proofs.Stored.{stored, stored_all}
use Rattle.adversary.specs.Beside.{written}

-- what is written and what is left of the list give the whole; out has the page written
pub record Writing (list : List ℕ) (page : ℕ) (out : List ℕ) (i n : ℕ) (out' : List ℕ) : Type 0 where
  pub count : n + length (below page (drop i list)) ≡ suc (length (below page list))
  pub whole : stored n (below page (drop i list)) out' ≡ stored 1 (below page list) out

module _ (list : List ℕ) (page : ℕ) (out : List ℕ) where
  module _ (i n : ℕ) (out' : List ℕ) (w : Writing list page out i n out') where
    below_here : i < length list → below page (drop i list) ≡ cond (ltb (get_or list i 0) page) (get_or list i 0 ∷ below page (drop (i + 1) list)) (below page (drop (i + 1) list))
    unfolding below
    below_here lt = at_drop_more (below page) list i 0 lt

    pub writing_past : i < length list → page ≤ get_or list i 0 → Writing list page out (i + 1) n out'
    writing_past lt above =
        let b = below_here lt ∙ simp (le-ltb (get_or list i 0) page above) in
        record { count = rw b at w.count; whole = rw b at w.whole }

    pub writing_more : i < length list → get_or list i 0 < page → Writing list page out (i + 1) (n + 1) (set out' n (get_or list i 0))
    unfolding stored
    writing_more lt under =
        let b : below page (drop i list) ≡ get_or list i 0 ∷ below page (drop (i + 1) list) = below_here lt ∙ simp (lt-ltb (get_or list i 0) page under) in
        let c = rw b at w.count in
        record { count = omega arith; whole = rw b at w.whole }

    pub writing_all :
        length list ≤ i → (first : List ℕ) → out ≡ set first 0 page → (n ≡ length (held list page)) × (out' ≡ written first (held list page))
    unfolding below stored held
    writing_all end first is =
        let b : below page (drop i list) ≡ [] = at_drop_all (below page) list i end in
        let c = rw b at w.count in
        let s = rw b at w.whole in
        (omega arith, s ∙ ap (stored 1 (below page list)) is ∙ stored_all (held list page) first)
