-- The page used longest ago: it stands in the last slot of the ring, and goes for one that is not there.
use Rattle.std.proofs.Common.{◌≡◌, ℕ, ◌≤◌, false, List, [], ◌∷◌, ◌++◌, map, length, sym, refl, ap, ◌∙◌, append-nil, arith}
use Rattle.std.proofs.lemmas.List.{map-append}
use Rattle.paging.specs.Lists.{has, last_of}
use Rattle.paging.specs.Lru.{lru}
use Rattle.paging.proofs.Appends.{has_first, ended, last_append}
use Rattle.paging.proofs.Requests.{lru_full}
use Rattle.recency.specs.Row.{count, next, prev, held, pages, renewed}
use Rattle.recency.specs.Sound.{Chain, Sound}
use Rattle.recency.proofs.Freed.{low, high, free, ready}
use Rattle.recency.proofs.Links.{chain_cut, ends}
use Rattle.recency.proofs.Moves.{linked_prev}
use Rattle.recency.proofs.Pages.{pages_sound, length_pages}
use Rattle.recency.proofs.Served.{Served, served}

module _ (k : ℕ) (row : List ℕ) (sound : Sound k row) (some : 1 ≤ count row) where
  abbrev last : ℕ
  last = prev row 0

  pub record Oldest : Type 0 where
    pub front : List ℕ
    pub joins : sound.order ≡ front ++ last ∷ []

  pub oldest : Oldest
  oldest = go sound.order refl
    where
      go : (order : List ℕ) → sound.order ≡ order → Oldest
      go [] e = absurd (omega (arith, sound.many, ap length e))
      go (x ∷ xs) e =
          let en = ended x xs in
          let end = last_of (x ∷ xs) in
          let joined : sound.order ≡ en.front ++ end ∷ [] = e ∙ en.joins in
          let chain : Chain (next row) (prev row) 0 (en.front ++ end ∷ []) 0 = rw joined at sound.linked.chain in
          let back = (ends (next row) (prev row) end 0 (chain_cut (next row) (prev row) en.front 0 end [] 0 chain).1).1 in
          record { front = en.front; joins = rw back joined }

  pub last_low : 1 ≤ last
  last_low = low k row sound oldest.front last [] oldest.joins

  pub last_high : last ≤ count row
  last_high = high k row sound oldest.front last [] oldest.joins

  last_pages : pages row ≡ map (held row) oldest.front ++ held row last ∷ []
  last_pages = pages_sound k row sound ∙ ap (map (held row)) oldest.joins ∙ map-append (held row) oldest.front (last ∷ [])

  -- the page that goes is the one used longest ago
  pub oldest_page : held row last ≡ last_of (pages row)
  oldest_page = sym (ap last_of last_pages ∙ last_append (map (held row) oldest.front) (held row last))

  pub evicted : (page : ℕ) → count row ≡ k → has (pages row) page ≡ false → Served k row page (renewed k row last page)
  evicted page full new =
      let stay = map (held row) oldest.front in
      let new' : has (stay ++ held row last ∷ []) page ≡ false = ap (λ (zs : List ℕ). has zs page) (sym last_pages) ∙ new in
      let long : length (stay ++ held row last ∷ []) ≡ k = ap length (sym last_pages) ∙ length_pages k row sound ∙ full in
      served k row (free k row sound oldest.front last [] oldest.joins) last (oldest.front ++ []) page (ready k row sound oldest.front last [] oldest.joins) sound
      (rw append-nil (sym (ap (λ (zs : List ℕ). lru k zs page) last_pages ∙ lru_full k page stay (held row last) new' long)))

-- the last slot of the ring, or 0
pub oldest_near : (k : ℕ) (row : List ℕ) → Sound k row → prev row 0 ≤ k
oldest_near k row sound =
    omega (arith, linked_prev (count row) row sound.order sound.linked 0 (has_first 0 sound.order), sound.sized.few)
