-- What an edit of the ring leaves of the chains and the pages, and what one of the chains leaves of the ring and the pages.
use Rattle.std.proofs.Common.{◌≡◌, ℕ, ◌+◌, ◌*◌, ◌<◌, ◌≤◌, ◌⊎◌, List, length, get_or, drop, set, refl, ◌∙◌, ⊎_elim, arith}
use Rattle.std.proofs.lemmas.List.{get_or-set_other, length-set, drop-set-lt}
use Rattle.recency.specs.Row.{count, next, prev, held, behind_at, lead_at}
use Rattle.recency.specs.Sound.{Sized}

-- row' differs from row in numbers that P holds of at most, is as long, and is the same behind 9 k + 5 numbers
pub record Apart (k : ℕ) (P : ℕ → Type 0) (row row' : List ℕ) : Type 0 where
  pub same : (i : ℕ) → (P i → ⊥) → get_or row' i 0 ≡ get_or row i 0
  pub len : length row' ≡ length row
  pub beyond : drop (9 * k + 5) row' ≡ drop (9 * k + 5) row

pub apart_trans : (k : ℕ) (P : ℕ → Type 0) (a b c : List ℕ) → Apart k P a b → Apart k P b c → Apart k P a c
apart_trans k P a b c x y =
    record {
      same = λ i other. y.same i other ∙ x.same i other;
      len = y.len ∙ x.len;
      beyond = y.beyond ∙ x.beyond;
    }

pub apart_set : (k : ℕ) (P : ℕ → Type 0) (row : List ℕ) (i v : ℕ) → P i → i < 9 * k + 5 → Apart k P row (set row i v)
apart_set k P row i v p below =
    record {
      same = λ j other. get_or-set_other row i j v 0 (λ e. other (rw e p));
      len = length-set row i v;
      beyond = drop-set-lt (9 * k + 5) row i v below;
    }

-- number i is the one that stands at o among the five of a slot from `low` to k
pub record Of (k low o i : ℕ) : Type 0 where
  pub slot : ℕ
  pub above : low ≤ slot
  pub inside : slot ≤ k
  pub is : i ≡ 5 * slot + o

-- the links of the ring
abbrev pub Ring : ℕ → ℕ → Type 0
Ring k i = Of k 0 0 i ⊎ Of k 0 1 i

-- the numbers that may lead to a slot of a chain: where chains begin, and what is behind a slot
abbrev pub Leads : ℕ → ℕ → Type 0
Leads k i = ((5 * k + 5 ≤ i) × (i < 9 * k + 5)) ⊎ Of k 1 3 i

pub leads_below : (k i : ℕ) → Leads k i → i < 9 * k + 5
leads_below k i leads = ⊎_elim (λ x. x.1) (λ x. omega (arith, x.is, x.inside)) leads

-- these, and the numbers that say where they stand
abbrev pub Chains : ℕ → ℕ → Type 0
Chains k i = Leads k i ⊎ Of k 0 4 i

-- the links of the ring alone have changed
module _ (k : ℕ) (row row' : List ℕ) (apart : Apart k (Ring k) row row') where
  relinked : (o t : ℕ) → 2 ≤ o → o < 5 → get_or row' (5 * t + o) 0 ≡ get_or row (5 * t + o) 0
  relinked o t low high = apart.same (5 * t + o) (⊎_elim (λ x. omega (arith, x.is)) (λ x. omega (arith, x.is)))

  pub relinked_held : (t : ℕ) → held row' t ≡ held row t
  relinked_held t = relinked 2 t (omega arith) (omega arith)

  pub relinked_behind : (t : ℕ) → get_or row' (behind_at t) 0 ≡ get_or row (behind_at t) 0
  relinked_behind t = relinked 3 t (omega arith) (omega arith)

  pub relinked_lead : (t : ℕ) → get_or row' (lead_at t) 0 ≡ get_or row (lead_at t) 0
  relinked_lead t = relinked 4 t (omega arith) (omega arith)

  pub relinked_count : count row' ≡ count row
  relinked_count = relinked_behind 0

  pub relinked_door : (i : ℕ) → 5 * k + 5 ≤ i → get_or row' i 0 ≡ get_or row i 0
  relinked_door i le = apart.same i (⊎_elim (λ x. omega (arith, x.is, x.inside)) (λ x. omega (arith, x.is, x.inside)))

  pub relinked_sized : Sized k row → Sized k row'
  relinked_sized sized =
      let c = relinked_count in
      let l = apart.len in
      record { low = sized.low; high = sized.high; long = omega (arith, sized.long); few = omega (arith, sized.few) }

-- the chains alone have changed
module _ (k : ℕ) (row row' : List ℕ) (apart : Apart k (Chains k) row row') where
  rechained : (i o t : ℕ) → i ≡ 5 * t + o → o < 3 → t ≤ k → get_or row' i 0 ≡ get_or row i 0
  rechained i o t e small le =
      apart.same i (⊎_elim (⊎_elim (λ x. omega (arith, x.0)) (λ x. omega (arith, x.is))) (λ x. omega (arith, x.is)))

  pub rechained_next : (t : ℕ) → t ≤ k → next row' t ≡ next row t
  rechained_next t = rechained (5 * t) 0 t (omega arith) (omega arith)

  pub rechained_prev : (t : ℕ) → t ≤ k → prev row' t ≡ prev row t
  rechained_prev t = rechained (5 * t + 1) 1 t refl (omega arith)

  pub rechained_held : (t : ℕ) → t ≤ k → held row' t ≡ held row t
  rechained_held t = rechained (5 * t + 2) 2 t refl (omega arith)

  pub rechained_count : count row' ≡ count row
  rechained_count =
      apart.same 3 (⊎_elim (⊎_elim (λ x. omega (arith, x.0)) (λ x. omega (arith, x.is, x.above))) (λ x. omega (arith, x.is)))

  pub rechained_sized : Sized k row → Sized k row'
  rechained_sized sized =
      let c = rechained_count in
      let l = apart.len in
      record { low = sized.low; high = sized.high; long = omega (arith, sized.long); few = omega (arith, sized.few) }
