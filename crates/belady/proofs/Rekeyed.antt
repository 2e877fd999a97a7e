-- The keys of a cache after a request: only the page requested has a new one, where it stands or where it comes in.
use Rattle.std.proofs.Common.{◌≡◌, ℕ, zero, suc, ◌+◌, ◌-◌, ◌<◌, ◌≤◌, true, List, length, get_or, take, drop, set, sym, refl, ap, ◌∙◌, inl, inr, arith}
use Rattle.std.proofs.lemmas.List.{length-take-le, get_or-take, get_or-drop, get_or-set_same, get_or-set_other, get_or_append_left, get_or-append_right}
use Rattle.std.proofs.lemmas.Bool.{cases_eq, cases_lt}
use Rattle.paging.specs.Belady.{next_use}
use Rattle.paging.specs.Lists.{distinct, place}
use Rattle.paging.proofs.Keyed.{Keyed}
use Rattle.paging.proofs.Places.{place_more}
use Rattle.curve.proofs.Stacks.{lifted}
use Rattle.belady.specs.Ahead.{next_at}
use Rattle.belady.proofs.Standing.{place_at, get_or_place}

-- what stands behind the first of a row where a page was put in front
module _ (page end : ℕ) (row : List ℕ) (within : end < length row) (j : ℕ) where
  lifted_before : j < end → get_or (lifted page end row) (suc j) 0 ≡ get_or row j 0
  lifted_before lt =
      let len = length-take-le end row (omega arith) in
      get_or_append_left (take end row) (drop (end + 1) row) 0 j (omega arith) ∙ get_or-take end row j 0 lt

  lifted_behind : end ≤ j → get_or (lifted page end row) (suc j) 0 ≡ get_or row (suc j) 0
  lifted_behind le =
      let len = length-take-le end row (omega arith) in
      let at : (end + 1) + (j - end) ≡ suc j = omega arith in
      get_or-append_right (take end row) (drop (end + 1) row) end j 0 len le ∙ rw (get_or-drop, at) refl

module _ (trace : List ℕ) (i : ℕ) (pages keys : List ℕ) (n : ℕ) (keyed : Keyed trace i pages keys n) (lt : i < length trace) where
  -- a page that is not requested now has its key
  pub key_stays :
      (j : ℕ) → j < n → (get_or pages j 0 ≡ get_or trace i 0 → ⊥) → get_or keys j 0 ≡ (i + 1) + next_use (get_or pages j 0) (drop (i + 1) trace)
  key_stays j below apart = keyed j below ∙ place_more (get_or pages j 0) trace i lt (λ e. apart (sym e))

  module _ (next : ℕ) (is-next : next ≡ next_at trace i) where
    pub keyed_found :
        (at : ℕ) → at ≡ place (get_or trace i 0) (take n pages) → at < n → distinct (take n pages) ≡ true → n ≤ length pages → n ≤ length keys →
        Keyed trace (i + 1) pages (set keys at next) n
    keyed_found at is below once lp lk j inside =
        let len = length-take-le n pages lp in
        elim (cases_eq j at) [
          | inl e ↦
              let here : get_or pages j 0 ≡ get_or trace i 0 =
              sym (get_or-take n pages j 0 inside) ∙ get_or_place (get_or trace i 0) (take n pages) j (e ∙ is) (omega arith) in
              rw here (rw e (get_or-set_same keys at next 0 (omega arith)) ∙ is-next)
          | inr apart ↦
              get_or-set_other keys at j next 0 apart
              ∙ key_stays j inside (λ e.
              apart (sym (place_at (take n pages) j once (omega arith)) ∙ ap (λ (x : ℕ). place x (take n pages)) (get_or-take n pages j 0 inside ∙ e) ∙ sym is))
        ]

    pub keyed_lifted :
        (end m : ℕ) → end < length pages → end < length keys → ((j : ℕ) → j < n → get_or pages j 0 ≡ get_or trace i 0 → ⊥) →
        ((j : ℕ) → suc j < m → (j < n) × (end ≤ j → suc j < n)) → Keyed trace (i + 1) (lifted (get_or trace i 0) end pages) (lifted next end keys) m
    keyed_lifted end m lp lk absent old zero inside = is-next
    keyed_lifted end m lp lk absent old (suc j) inside =
        let o = old j inside in
        elim (cases_lt j end) [
          | inl below ↦
              let p = lifted_before (get_or trace i 0) end pages lp j below in
              let k = lifted_before next end keys lk j below in
              rw (p, k) (key_stays j o.0 (absent j o.0))
          | inr above ↦
              let p = lifted_behind (get_or trace i 0) end pages lp j above in
              let k = lifted_behind next end keys lk j above in
              rw (p, k) (key_stays (suc j) (o.1 above) (absent (suc j) (o.1 above)))
        ]
