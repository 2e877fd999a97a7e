-- What Belady's rule fetches, counted request by request: so many so far and those from here on are all.
--     Fetched h trace i n cache     n of the first i requests of trace were fetched, and the cache of h places is what the rule keeps
use Rattle.std.proofs.Common.{◌≡◌, ℕ, suc, ◌+◌, ◌<◌, ◌≤◌, Bool, true, false, cond, not, List, [], length, get_or, drop, arith}
use Rattle.std.proofs.lemmas.List.{at_drop_more, at_drop_all}
use Rattle.std.proofs.lemmas.Bool.Decides.{nat_tests}
use Rattle.paging.specs.Belady.{belady, belady_fetches}
use Rattle.paging.specs.Lists.{has}

pub record Fetched (h : ℕ) (trace : List ℕ) (i n : ℕ) (cache : List ℕ) : Type 0 where
  pub few : n ≤ i
  pub all : n + belady_fetches h cache (drop i trace) ≡ belady_fetches h [] trace

pub fetched_none : (h : ℕ) (trace cache : List ℕ) → cache ≡ [] → Fetched h trace 0 0 cache
fetched_none h trace cache empty = record { few = omega arith; all = rw empty (omega arith) }

module _ (h : ℕ) (trace : List ℕ) (i n : ℕ) (cache : List ℕ) (so_far : Fetched h trace i n cache) where
  module _
      (lt : i < length trace) (places : ℕ) (same : places ≡ h) (next : List ℕ)
      (is : next ≡ belady places cache (get_or trace i 0) (drop (i + 1) trace)) (fetched : Bool) (value : fetched ≡ not (has cache (get_or trace i 0)))
    where
      step : n + (cond fetched 1 0 + belady_fetches h next (drop (i + 1) trace)) ≡ belady_fetches h [] trace
      unfolding belady_fetches
      step =
          let all = so_far.all in
          let e : belady_fetches h cache (drop i trace)
          ≡ cond (has cache (get_or trace i 0)) (belady_fetches h (belady h cache (get_or trace i 0) (drop (i + 1) trace)) (drop (i + 1) trace))
          (suc (belady_fetches h (belady h cache (get_or trace i 0) (drop (i + 1) trace)) (drop (i + 1) trace))) =
          at_drop_more (belady_fetches h cache) trace i 0 lt in
          rw (is, same) (grind (arith, nat_tests))

      pub fetched_here : fetched ≡ false → Fetched h trace (i + 1) n next
      fetched_here was = let few = so_far.few in let s = rw was at step in record { few = omega arith; all = omega arith }

      pub fetched_more : fetched ≡ true → Fetched h trace (i + 1) (n + 1) next
      fetched_more was = let few = so_far.few in let s = rw was at step in record { few = omega arith; all = omega arith }

  pub fetched_all : length trace ≤ i → n ≡ belady_fetches h [] trace
  unfolding belady_fetches
  fetched_all end = omega (arith, so_far.all, at_drop_all (belady_fetches h cache) trace i end)
