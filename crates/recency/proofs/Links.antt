-- The ring of slots: what taking a slot out and putting one in front do to its links.
use Rattle.std.proofs.Common.{◌≡◌, ℕ, zero, suc, ◌+◌, ◌<◌, true, false, ◌≢◌, List, [], ◌∷◌, ◌++◌, length, get_or, sym, refl, ap, ◌∙◌, append-nil, add-one, arith}
use Rattle.std.proofs.lemmas.Bool.Decides.{nat_tests}
use Rattle.paging.specs.Lists.{has, distinct}
use Rattle.paging.proofs.Appends.{distinct_front, distinct_back, distinct_parts, distinct_parts_back, distinct_cons, has_tail, has_first, has_later, has_apart}
use Rattle.recency.specs.Row.{walk}
use Rattle.recency.specs.Sound.{Chain}

module _ (f g : ℕ → ℕ) where
  pub chain_cut : (xs : List ℕ) (a s : ℕ) (ys : List ℕ) (b : ℕ) → Chain f g a (xs ++ s ∷ ys) b → Chain f g a xs s × Chain f g s ys b
  unfolding Chain
  chain_cut [] a s ys b c = ((c.0, c.1), c.2)
  chain_cut (x ∷ xs) a s ys b c = let i = chain_cut xs x s ys b c.2 in ((c.0, c.1, i.0), i.1)

  chain_join : (xs : List ℕ) (a s : ℕ) (ys : List ℕ) (b : ℕ) → Chain f g a xs s → Chain f g s ys b → Chain f g a (xs ++ s ∷ ys) b
  unfolding Chain
  chain_join [] a s ys b c d = (c.0, c.1, d)
  chain_join (x ∷ xs) a s ys b c d = (c.0, c.1, chain_join xs x s ys b c.2 d)

  -- the slot before the end of a chain is its last one
  chain_back : (xs : List ℕ) (a b : ℕ) → Chain f g a xs b → has (a ∷ xs) (g b) ≡ true
  unfolding Chain has
  chain_back [] a b c = grind (arith, nat_tests)
  chain_back (x ∷ xs) a b c = let i = chain_back xs x b c.2 in grind (arith, nat_tests)

  -- links lead to slots of the chain, or to its ends
  pub chain_next : (xs : List ℕ) (a b s : ℕ) → Chain f g a xs b → has (a ∷ xs) s ≡ true → has (b ∷ xs) (f s) ≡ true
  unfolding Chain has
  chain_next [] a b s c there = let e : a ≡ s → f a ≡ f s = ap f in grind (arith, nat_tests)
  chain_next (x ∷ xs) a b s c there =
      let i = chain_next xs x b s c.2 in
      let e : a ≡ s → f a ≡ f s = ap f in
      grind (arith, nat_tests)

  pub chain_prev : (xs : List ℕ) (a b s : ℕ) → Chain f g a xs b → has (b ∷ xs) s ≡ true → has (a ∷ xs) (g s) ≡ true
  unfolding Chain has
  chain_prev [] a b s c there = let e : b ≡ s → g b ≡ g s = ap g in grind (arith, nat_tests)
  chain_prev (x ∷ xs) a b s c there =
      let i = chain_prev xs x b s c.2 in
      let e : x ≡ s → g x ≡ g s = ap g in
      grind (arith, nat_tests)

  -- what a chain begins with
  pub begins : (x : ℕ) (xs : List ℕ) (a b : ℕ) → Chain f g a (x ∷ xs) b → (f a ≡ x) × (g x ≡ a) × Chain f g x xs b
  unfolding Chain
  begins x xs a b c = c

  pub ends : (a b : ℕ) → Chain f g a [] b → (f a ≡ b) × (g b ≡ a)
  unfolding Chain
  ends a b c = c

  -- links by place: each slot leads to the next one, and the last to 0
  pub chain_at : (xs : List ℕ) (a i : ℕ) → Chain f g a xs 0 → i < length xs → f (get_or xs i 0) ≡ get_or xs (i + 1) 0
  unfolding Chain
  chain_at [] a i c lt = absurd (omega arith)
  chain_at (x ∷ []) a zero c lt = c.2.0
  chain_at (x ∷ []) a (suc i) c lt = absurd (omega arith)
  chain_at (x ∷ y ∷ xs) a zero c lt = c.2.0
  chain_at (x ∷ y ∷ xs) a (suc i) c lt = let r = chain_at (y ∷ xs) x i c.2 (omega arith) in rw (add-one) (rw (add-one) at r)

  pub chain_first : (xs : List ℕ) (a : ℕ) → Chain f g a xs 0 → f a ≡ get_or xs 0 0
  unfolding Chain
  chain_first [] a c = c.0
  chain_first (x ∷ xs) a c = c.0

  -- a walk along a chain meets its slots in order
  pub walk_chain : (xs : List ℕ) (a b : ℕ) → Chain f g a xs b → walk (length xs) f (f a) ≡ xs
  unfolding Chain walk
  walk_chain [] a b c = refl
  walk_chain (x ∷ xs) a b c = rw c.0 (ap (λ (zs : List ℕ). x ∷ zs) (walk_chain xs x b c.2))

module _ (f g f' g' : ℕ → ℕ) where
  -- a chain whose own links are the same stays
  pub chain_same :
      (xs : List ℕ) (a b : ℕ) → ((i : ℕ) → has (a ∷ xs) i ≡ true → f' i ≡ f i) → ((i : ℕ) → has xs i ≡ true → g' i ≡ g i) → g' b ≡ g b →
      Chain f g a xs b → Chain f' g' a xs b
  unfolding Chain has
  chain_same [] a b fs gs e c = (fs a (grind (arith, nat_tests)) ∙ c.0, e ∙ c.1)
  chain_same (x ∷ xs) a b fs gs e c = (
    fs a (grind (arith, nat_tests)) ∙ c.0,
    gs x (grind (arith, nat_tests)) ∙ c.1,
    chain_same xs x b (λ i h. fs i (grind (arith, nat_tests))) (λ i h. gs i (grind (arith, nat_tests))) e c.2,
  )

  -- the end of a chain is moved from s to v
  relink :
      (xs : List ℕ) (a s v : ℕ) → f' (g s) ≡ v → ((i : ℕ) → i ≢ g s → f' i ≡ f i) → g' v ≡ g s → ((i : ℕ) → i ≢ v → g' i ≡ g i) →
      distinct (a ∷ xs) ≡ true → has xs v ≡ false → Chain f g a xs s → Chain f' g' a xs v
  unfolding Chain has distinct
  relink [] a s v fu fo gv go d n c = (ap f' (sym c.1) ∙ fu, gv ∙ c.1)
  relink (x ∷ xs) a s v fu fo gv go d n c =
      let back = chain_back f g xs x s c.2 in
      let ne : a ≢ g s = λ e. let h : has (x ∷ xs) a ≡ true = ap (has (x ∷ xs)) e ∙ back in grind (arith, nat_tests) in
      let nv : x ≢ v = λ e. grind (arith, nat_tests) in
      (fo a ne ∙ c.0, go x nv ∙ c.1, relink xs x s v fu fo gv go (grind (arith, nat_tests)) (grind (arith, nat_tests)) c.2)

  -- slot s is taken out: its neighbours are linked to each other
  pub chain_unlink :
      (xs : List ℕ) (s : ℕ) (ys : List ℕ) → f' (g s) ≡ f s → ((i : ℕ) → i ≢ g s → f' i ≡ f i) → g' (f s) ≡ g s → ((i : ℕ) → i ≢ f s → g' i ≡ g i) →
      distinct (0 ∷ xs ++ s ∷ ys) ≡ true → Chain f g 0 (xs ++ s ∷ ys) 0 → Chain f' g' 0 (xs ++ ys) 0
  chain_unlink xs s [] fu fo gv go d c =
      let parts = chain_cut f g xs 0 s [] 0 c in
      let end = (ends f g s 0 parts.1).0 in
      let front = distinct_front (0 ∷ xs) (s ∷ []) d in
      let absent : has xs (f s) ≡ false = ap (has xs) end ∙ (distinct_cons 0 xs front).0 in
      let r = relink xs 0 s (f s) fu fo gv go front absent parts.0 in
      rw append-nil (rw end at r)
  chain_unlink xs s (y ∷ ys) fu fo gv go d c =
      let parts = chain_cut f g xs 0 s (y ∷ ys) 0 c in
      let first = begins f g y ys s 0 parts.1 in
      let back = chain_back f g xs 0 s parts.0 in
      let rest = (distinct_cons s (y ∷ ys) (distinct_back (0 ∷ xs) (s ∷ y ∷ ys) d)).1 in
      let front = distinct_front (0 ∷ xs) (s ∷ y ∷ ys) d in
      let others = λ (i : ℕ) (h : has (0 ∷ xs) i ≡ true). (has_tail s (y ∷ ys) i (distinct_parts (0 ∷ xs) (s ∷ y ∷ ys) i d h)).1 in
      let later : Chain f' g' y ys 0 =
      chain_same ys y 0 (λ i h. fo i (has_apart (y ∷ ys) i (g s) h (others (g s) back)))
      (λ i h. go i (λ e. has_apart ys i y h (distinct_cons y ys rest).0 (e ∙ first.0)))
      (go 0 (λ e. (has_tail y ys 0 (others 0 (has_first 0 xs))).0 (sym (e ∙ first.0)))) first.2 in
      let absent : has xs (f s) ≡ false = ap (has xs) first.0 ∙ (has_tail 0 xs y (distinct_parts_back (0 ∷ xs) (s ∷ y ∷ ys) y d (has_later s (y ∷ ys) y (has_first y ys)))).1 in
      let r = relink xs 0 s (f s) fu fo gv go front absent parts.0 in
      chain_join f' g' xs 0 y ys 0 (rw first.0 at r) later

  -- slot s is put in front
  pub chain_push :
      (xs : List ℕ) (s : ℕ) → f' 0 ≡ s → f' s ≡ f 0 → ((i : ℕ) → i ≢ 0 → i ≢ s → f' i ≡ f i) → g' s ≡ 0 → g' (f 0) ≡ s → ((i : ℕ) → i ≢ s → i ≢ f 0 → g' i ≡ g i) →
      s ≢ 0 → has xs s ≡ false → distinct (0 ∷ xs) ≡ true → Chain f g 0 xs 0 → Chain f' g' 0 (s ∷ xs) 0
  unfolding Chain
  chain_push [] s f0 fs fo gs gf go ns n d c = (f0, gs, (fs ∙ c.0, ap g' (sym c.0) ∙ gf))
  chain_push (x ∷ xs) s f0 fs fo gs gf go ns n d c =
      let outer = distinct_cons 0 (x ∷ xs) d in
      let inner = distinct_cons x xs outer.1 in
      let no-s = (has_tail x xs s n).1 in (
        f0,
        gs,
        (
          fs ∙ c.0,
          ap g' (sym c.0) ∙ gf,
          chain_same xs x 0 (λ i h. fo i (has_apart (x ∷ xs) i 0 h outer.0) (has_apart (x ∷ xs) i s h n))
              (λ i h. go i (has_apart xs i s h no-s) (λ e. has_apart xs i x h inner.0 (e ∙ c.0)))
              (go 0 (λ e. ns (sym e)) (λ e. (has_tail x xs 0 outer.0).0 (sym (e ∙ c.0)))) c.2,
        ),
      )
