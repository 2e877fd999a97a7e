-- Pages noted each once, up to h of them, one page on.
use Rattle.std.proofs.Common.{◌≡◌, ℕ, suc, ◌+◌, ◌<◌, ◌≤◌, Bool, true, false, cond, List, [], ◌∷◌, ◌++◌, append_assoc, length, get_or, take, drop, sym, refl, ap, ◌∙◌, ⊎_elim, arith}
use Rattle.std.proofs.lemmas.List.{take_all, take-take, take_at, drop_at, length-take, length-drop, length-append, length_push, at_drop_more, at_drop_all}
use Rattle.std.proofs.lemmas.Bool.{cases_lt}
use Rattle.std.proofs.lemmas.Bool.Decides.{nat_tests}
use Rattle.paging.specs.Adversary.{once_each}
use Rattle.paging.specs.Lists.{has, without}
use Rattle.paging.specs.Lru.{lru}
use Rattle.paging.proofs.Fresh.{once_each_append, length_once_each}
use Rattle.paging.proofs.Lists.{length_without}
use Rattle.recency.specs.Row as recent
use Rattle.recency.specs.Sound.{Sound}
use Rattle.adversary.specs.Rules.{Marks}
use Rattle.adversary.proofs.Marked.{lru_room, has_lru}

-- a page that is marked already
pub marks_again :
    (k : ℕ) (index pages : List ℕ) (page : ℕ) (index' : List ℕ) → Marks k index pages → length pages < k → has (recent.pages index) page ≡ true →
    recent.pages index' ≡ lru k (recent.pages index) page → Sound k index' → Marks k index' pages
unfolding has
marks_again k index pages page index' m room there is sound =
    let cache = recent.pages index in
    let few = m.few in
    let l = length_without page cache in
    let longer : length (lru k cache page) ≡ suc (length (without page cache)) = ap length (lru_room k cache page (omega arith)) in
    record {
      sound = sound;
      same = λ x. let a = has_lru k cache page (omega arith) x in let s = m.same x in let e : page ≡ x → has cache page ≡ has cache x = ap (has cache) in rw is (grind (arith, nat_tests));
      few = rw is (grind (arith, nat_tests));
    }

-- what was seen stays at the front
pub take_once : (seen pages : List ℕ) → take (length seen) (once_each seen pages) ≡ seen
unfolding once_each
take_once seen [] = take_all (length seen) seen (omega arith)
take_once seen (page ∷ pages) = go (has seen page) (λ z. take_once z pages)
  where
    go :
        (t : Bool) → ((z : List ℕ) → take (length z) (once_each z pages) ≡ z) →
        take (length seen) (once_each (cond t seen (seen ++ page ∷ [])) pages) ≡ seen
    go true later = later seen
    go false later =
        let longer = seen ++ page ∷ [] in
        let l = length_push seen page in
        sym (take-take (length seen) (length longer) (once_each longer pages) (omega arith)) ∙ ap (take (length seen)) (later longer) ∙ take_at seen (page ∷ []) (length seen) refl

module _ (h : ℕ) (seen : List ℕ) (page : ℕ) where
  -- there is room for one more
  pub gather_room : length seen < h → take h (once_each seen (page ∷ [])) ≡ once_each seen (page ∷ [])
  gather_room room = let l = length_once_each seen (page ∷ []) in take_all h (once_each seen (page ∷ [])) (omega arith)

  -- or there is not
  pub gather_full : (pages : List ℕ) → length seen ≡ h → take h (once_each seen pages) ≡ seen
  gather_full pages full = rw (← full) (take_once seen pages)

  pub gather_step : (pages : List ℕ) → length seen ≤ h → take h (once_each (take h (once_each seen (page ∷ []))) pages) ≡ take h (once_each seen (page ∷ pages))
  gather_step pages few = ⊎_elim room full (cases_lt (length seen) h)
    where
      room : length seen < h → take h (once_each (take h (once_each seen (page ∷ []))) pages) ≡ take h (once_each seen (page ∷ pages))
      room lt = rw (gather_room lt) (ap (take h) (sym (once_each_append seen (page ∷ []) pages)))

      full : h ≤ length seen → take h (once_each (take h (once_each seen (page ∷ []))) pages) ≡ take h (once_each seen (page ∷ pages))
      full le =
          let same : length seen ≡ h = omega arith in
          rw (gather_full (page ∷ []) same) (gather_full pages same ∙ sym (gather_full (page ∷ pages) same))

-- through a list
module _ (h : ℕ) (seen list : List ℕ) (i : ℕ) (few : length seen ≤ h) where
  pub gather_more :
      i < length list →
      take h (once_each (take h (once_each seen (get_or list i 0 ∷ []))) (drop (i + 1) list)) ≡ take h (once_each seen (drop i list))
  gather_more lt =
      gather_step h seen (get_or list i 0) (drop (i + 1) list) few ∙ sym (at_drop_more (λ xs. take h (once_each seen xs)) list i 0 lt)

  pub gather_all : length list ≤ i → take h (once_each seen (drop i list)) ≡ seen
  unfolding once_each
  gather_all end = at_drop_all (λ xs. take h (once_each seen xs)) list i end ∙ take_all h seen few

-- what is noted comes to the front of the list before it
module _ (k n : ℕ) (list picked : List ℕ) (front : length list ≡ k + 1) (few : n ≤ k) (long : k ≤ length picked) where
  pub brought : take n (take n picked ++ drop n list ++ picked) ≡ take n picked
  brought =
      let l = length-take n picked in
      ap (take n) (append_assoc (take n picked) (drop n list) picked) ∙ take_at (take n picked) (drop n list ++ picked) n (omega arith)

  pub brought_back : drop (k + 1) (take n picked ++ drop n list ++ picked) ≡ picked
  brought_back =
      let l = length-take n picked in
      let d = length-drop n list in
      let a = length-append (take n picked) (drop n list) in
      drop_at (take n picked ++ drop n list) picked (k + 1) (omega arith)
