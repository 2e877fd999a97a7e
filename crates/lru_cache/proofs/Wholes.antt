-- A whole trace: from a checked row through its index and back.
use Rattle.std.proofs.Common.{◌≡◌, ℕ, ◌+◌, List, ◌++◌, length, take, drop, Some, None, ap, ◌∙◌, subst, arith}
use Rattle.paging.specs.Lru.{lru_fetches, lru_after}
use Rattle.paging.proofs.Competitive.{competitive_from}
use Rattle.recency.specs.Row as recent
use Rattle.recency.specs.declared.uses.Outcome.{Outcome}
use Rattle.lru_cache.specs.Rows.{capacity, cached, row_of, fault, first_wide, refusal}
use Rattle.lru_cache.specs.Outcomes.{outcomes}
use Rattle.lru_cache.specs.Promises.{Checked, Indexed, Left, Played}
use Rattle.lru_cache.specs.declared.refusals.Refusal.{Refusal}
use Rattle.lru_cache.proofs.Kept.{row_again, after_small, after_once, after_few}
use Rattle.lru_cache.proofs.Written.{length_cached}

module _ (row : List ℕ) (m : ℕ) (trace : List ℕ) where
  pub refused_row : (e : Refusal) → fault row m ≡ Some e → refusal row m trace ≡ Some e
  unfolding refusal
  refused_row e is = simp is

  pub refused_trace : fault row m ≡ None → refusal row m trace ≡ first_wide trace
  unfolding refusal
  refused_trace is = simp is

module _ (cache index trace : List ℕ) (k n : ℕ) (checked : Checked cache (length index) k n) (narrow : first_wide trace ≡ None) where
  whole_left :
      (cache' index' : List ℕ) → length index' ≡ length index → Indexed k (lru_after k (cached cache) trace) index index' →
      cache' ≡ row_of k (recent.pages index') (drop (2 + k) cache) → Left (lru_after k (cached cache) trace) cache index cache' index'
  whole_left cache' index' long indexed is =
      let pages = lru_after k (cached cache) trace in
      let many = length_cached cache k (omega (arith, checked.few, checked.many)) checked.long in
      let few = after_few k (cached cache) trace (omega (arith, checked.few, checked.many)) in
      let c = checked.capacity_is in
      let room = checked.room in
      let row : cache' ≡ row_of k pages (drop (2 + k) cache) = is ∙ ap (λ (xs : List ℕ). row_of k xs (drop (2 + k) cache)) indexed.holds in
      let again = row_again k pages (drop (2 + k) cache) (length index') checked.low checked.high (omega arith) few
      (after_once k (cached cache) trace checked.once) (after_small k (cached cache) trace narrow checked.small) in
      record {
        row = row ∙ ap (λ (j : ℕ). row_of j pages (drop (2 + j) cache)) c;
        indexed = subst (λ j. Indexed j pages index index') c indexed;
        again = rw row again;
      }

  pub whole_played :
      (found found' : List Outcome) (fetches : ℕ) (index₁ cache' index' : List ℕ) → length index' ≡ length index → Indexed k (cached cache) index index₁ →
      fetches ≡ lru_fetches k (recent.pages index₁) trace →
      found' ≡ take (length found) (outcomes k (recent.pages index₁) trace) ++ drop (length trace) found →
      Indexed k (lru_after k (recent.pages index₁) trace) index₁ index' → cache' ≡ row_of k (recent.pages index') (drop (2 + k) cache) →
      Played cache index trace found fetches cache' index' found'
  whole_played found found' fetches index₁ cache' index' long opened count told ran is =
      let p = opened.holds in
      let c = checked.capacity_is in
      let left = whole_left cache' index' long (record { sound = ran.sound; holds = rw p at ran.holds; beyond = ran.beyond ∙ opened.beyond }) is in
      record {
        fetches = rw c at (rw p at count);
        told = rw c at (rw p at told);
        left = rw c at left;
        bounded = λ h start schedule low le ok.
            rw (rw c at (rw p at count)) (competitive_from (capacity cache) h (cached cache) trace start schedule low le ok);
      }
