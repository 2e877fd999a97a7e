-- A cache row beside its open index.
use Rattle.std.proofs.Common.{◌≡◌, ℕ, ◌+◌, ◌≤◌, true, List, [], length, get_or, drop, sym, refl, ap, ◌∙◌, arith}
use Rattle.std.proofs.lemmas.List.{drop_all}
use Rattle.recency.specs.Row as index
use Rattle.recency.specs.Sound.{Sound}
use Rattle.recency.proofs.Pages.{length_pages}
use Rattle.lru_cache.specs.Rows.{cached, row_of}
use Rattle.lru_cache.proofs.Kept.{row_cached, row_length}
use Rattle.policies.specs.Whole.{whole}
use Rattle.policies.proofs.Wholes.{sound_from, whole_from}

pub record Opened (k : ℕ) (cache rows : List ℕ) : Type 0 where
  pub sound : Sound k rows
  pub size : length cache ≡ 2 + k
  pub few : get_or cache 1 0 ≤ k
  pub shows : cached cache ≡ index.pages rows

row_few : (k : ℕ) (pages rest : List ℕ) → get_or (row_of k pages rest) 1 0 ≡ length pages
unfolding row_of
row_few k pages rest = refl

pub opened : (k : ℕ) (cache rows : List ℕ) → whole k rows ≡ true → cache ≡ row_of k (index.pages rows) [] → Opened k cache rows
opened k cache rows formed closed =
    let s = sound_from k rows formed in
    let many = length_pages k rows s in
    let few : length (index.pages rows) ≤ k = omega (arith, s.sized.few) in
    let l = row_length k (index.pages rows) [] few in
    let f = row_few k (index.pages rows) [] in
    record {
      sound = s;
      size = rw closed (omega arith);
      few = rw closed (omega arith);
      shows = ap cached closed ∙ row_cached k (index.pages rows) [];
    }

-- the two facts that the rows are held by, after they were lent
module _ (k : ℕ) (cache cache' rows' : List ℕ) (size : length cache ≡ 2 + k) (sound : Sound k rows') (after : cache' ≡ row_of k (index.pages rows') (drop (2 + k) cache)) where
  pub again : (held held' : List ℕ) → held ≡ cache' → held' ≡ rows' → (whole k held' ≡ true) × (held ≡ row_of k (index.pages held') [])
  again held held' p q =
      let none : drop (2 + k) cache ≡ [] = drop_all (2 + k) cache (omega arith) in
      (ap (whole k) q ∙ whole_from k rows' sound, p ∙ after ∙ ap (row_of k (index.pages rows')) none ∙ ap (λ (xs : List ℕ). row_of k (index.pages xs) []) (sym q))
