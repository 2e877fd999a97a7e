-- A trace that is played request by request: what is left gives the same counts, cache and outcomes as the whole.
use Rattle.std.proofs.Common.{◌≡◌, ℕ, suc, ◌+◌, ◌<◌, ◌≤◌, cond, List, [], ◌∷◌, ◌++◌, length, get_or, take, drop, set, sym, refl, ap, ◌∙◌, arith}
use Rattle.std.proofs.lemmas.List.{at_drop_more, at_drop_all}
use Rattle.std.proofs.lemmas.Bool.Decides.{nat_tests}
use Rattle.paging.specs.Lists.{has}
use Rattle.paging.specs.Lru.{lru, lru_fetches, lru_after}
use Rattle.recency.specs.Outcome.{outcome}
use Rattle.recency.specs.declared.uses.Outcome.{Outcome}
use Rattle.lru_cache.specs.Outcomes.{fetches_of, outcomes}
use Rattle.lru_cache.proofs.Hits.{outcome_fetches}
use Rattle.lru_cache.proofs.Stored.{stored, stored_all}

pub record Ran (k : ℕ) (trace start : List ℕ) (found : List Outcome) (i n : ℕ) (cache : List ℕ) (found' : List Outcome) : Type 0 where
  pub few : n ≤ i
  pub fetches : n + lru_fetches k cache (drop i trace) ≡ lru_fetches k start trace
  pub after : lru_after k cache (drop i trace) ≡ lru_after k start trace
  pub told : stored i (outcomes k cache (drop i trace)) found' ≡ stored 0 (outcomes k start trace) found

module _ (k : ℕ) (trace start : List ℕ) (found : List Outcome) (i n : ℕ) (cache : List ℕ) (found' : List Outcome) (ran : Ran k trace start found i n cache found') where
  pub ran_more :
      i < length trace →
      let page = get_or trace i 0 in
      Ran k trace start found (i + 1) (n + fetches_of (outcome k cache page)) (lru k cache page) (set found' i (outcome k cache page))
  unfolding lru_fetches lru_after outcomes stored
  ran_more lt =
      let page = get_or trace i 0 in
      let rest = drop (i + 1) trace in
      let f : lru_fetches k cache (drop i trace) ≡ cond (has cache page) (lru_fetches k (lru k cache page) rest) (suc (lru_fetches k (lru k cache page) rest)) =
      at_drop_more (lru_fetches k cache) trace i 0 lt in
      let a : lru_after k cache (drop i trace) ≡ lru_after k (lru k cache page) rest = at_drop_more (lru_after k cache) trace i 0 lt in
      let r : outcomes k cache (drop i trace) ≡ outcome k cache page ∷ outcomes k (lru k cache page) rest = at_drop_more (outcomes k cache) trace i 0 lt in
      let cost = outcome_fetches k cache page in
      let few = ran.few in
      let sum = ran.fetches in
      record {
        few = grind (arith, nat_tests);
        fetches = grind (arith, nat_tests);
        after = sym a ∙ ran.after;
        told = ap (λ (xs : List Outcome). stored i xs found') (sym r) ∙ ran.told;
      }

  pub ran_all : length trace ≤ i → (n ≡ lru_fetches k start trace) × (cache ≡ lru_after k start trace)
      × (found' ≡ take (length found) (outcomes k start trace) ++ drop (length (outcomes k start trace)) found)
  unfolding lru_fetches lru_after outcomes stored
  ran_all end =
      let f : lru_fetches k cache (drop i trace) ≡ 0 = at_drop_all (lru_fetches k cache) trace i end in
      let a : lru_after k cache (drop i trace) ≡ cache = at_drop_all (lru_after k cache) trace i end in
      let r : stored i (outcomes k cache (drop i trace)) found' ≡ found' = at_drop_all (λ (xs : List ℕ). stored i (outcomes k cache xs) found') trace i end in
      let sum = ran.fetches in
      (omega arith, sym a ∙ ran.after, sym r ∙ ran.told ∙ stored_all (outcomes k start trace) found)

pub length_outcomes : (k : ℕ) (cache trace : List ℕ) → length (outcomes k cache trace) ≡ length trace
unfolding outcomes
length_outcomes k cache [] = refl
length_outcomes k cache (page ∷ trace) = ap suc (length_outcomes k (lru k cache page) trace)
