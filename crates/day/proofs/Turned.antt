-- When a trace is turned away, and what is left of the rows. Assumes nothing.
--     emptied         a row that begins with a capacity and no pages is a cache row, where the capacity is one
--     played          a trace that is played: the row is one again, and each request has its reply
--     refused         a trace that is turned away: the capacity is none, and each request is turned away
use Rattle.std.proofs.Common.{◌≡◌, ℕ, ◌+◌, ◌≤◌, Bool, true, false, List, [], ◌∷◌, ◌++◌, length, get_or, take, drop, set, replicate, map, Some, None, Ok, Err, refl, ap, ◌∙◌, arith}
use Rattle.std.proofs.lemmas.List.{take_at, take_all}
use Rattle.std.proofs.lemmas.Bool.Decides.{nat_tests}
use Rattle.paging.specs.Lru.{lru_after}
use Rattle.lru_cache.specs.Rows.{capacity, cached, shaped, fault, first_bad, first_wide, refusal}
use Rattle.recency.specs.declared.uses.Outcome.{Outcome}
use Rattle.lru_cache.specs.Outcomes.{outcomes}
use Rattle.lru_cache.specs.Promises.{Played}
use Rattle.lru_cache.specs.declared.refusals.Refusal.{Refusal}
use Rattle.lru_cache.specs.declared.refusals.Refusal.TheVariants.{NoCache}
use Rattle.lru_cache.proofs.Faults.{fault_unshaped, fault_pages}
use Rattle.lru_cache.proofs.Kept.{row_capacity, row_cached}
use Rattle.lru_cache.proofs.Runs.{length_outcomes}
use Rattle.lru_cache.proofs.Wholes.{refused_row, refused_trace}
use Rattle.day.specs.Said.{is_capacity, Ready, Reply, answers, cache_at_end}

empty_ready : (row : List ℕ) (m : ℕ) → get_or row 1 0 ≡ 0 → 4098 ≤ length row → 36869 ≤ m → Ready row m
unfolding first_bad
empty_ready row m none long room fits =
    let good : shaped row m ≡ true = grind (arith, nat_tests) in
    let empty : cached row ≡ [] = ap (λ (n : ℕ). take n (drop 2 row)) none in
    fault_pages row m good (omega arith) ∙ ap (first_bad 2 []) empty

pub emptied : (row : List ℕ) (k m : ℕ) → 4098 ≤ length row → 36869 ≤ m → Ready (set (set row 0 k) 1 0) m
emptied [] k m long fits = absurd (omega arith)
emptied (a ∷ []) k m long fits = absurd (omega arith)
emptied (a ∷ b ∷ rest) k m long fits = empty_ready (k ∷ 0 ∷ rest) m refl long fits

unfit : (row : List ℕ) (m : ℕ) → is_capacity (capacity row) ≡ false → fault row m ≡ Some NoCache
unfit row m not-one = let bad : shaped row m ≡ false = grind (arith, nat_tests) in fault_unshaped row m bad

-- the two ways, by whether the capacity is one
module _ (cache trace : List ℕ) (m : ℕ) where
  fits : (b : Bool) → is_capacity (capacity cache) ≡ b → refusal cache m trace ≡ None → is_capacity (capacity cache) ≡ true
  fits true is none = is
  fits false is none = let some = refused_row cache m trace NoCache (unfit cache m is) in let z : ◌≡◌ {A = ℕ} 0 1 = cc in absurd (omega arith)

  record Away (e : Refusal) : Type 0 where
    no_capacity : is_capacity (capacity cache) ≡ false
    why : e ≡ NoCache

  away : (b : Bool) (e : Refusal) → is_capacity (capacity cache) ≡ b → Ready cache m → first_wide trace ≡ None → refusal cache m trace ≡ Some e → Away e
  away true e is ready narrow some = let none = refused_trace cache m trace (ready is) ∙ narrow in let z : ◌≡◌ {A = ℕ} 0 1 = cc in absurd (omega arith)
  away false e is ready narrow some = let other = refused_row cache m trace NoCache (unfit cache m is) in record { no_capacity = is; why = cc }

-- what is so after a trace, played or not
pub record Answered (cache trace : List ℕ) (m : ℕ) (cache' : List ℕ) (replies : List Reply) : Type 0 where
  pub ready : Ready cache' m
  pub same : capacity cache' ≡ capacity cache
  pub after : cached cache' ≡ cache_at_end (capacity cache) (cached cache) trace
  pub replied : replies ≡ answers (capacity cache) (cached cache) trace

module _ (cache index trace : List ℕ) where
  pub played :
      (found : List Outcome) (n : ℕ) (cache' index' : List ℕ) (found' : List Outcome) → length trace ≤ length found → length index' ≡ length index →
      refusal cache (length index) trace ≡ None → Played cache index trace found n cache' index' found' →
      Answered cache trace (length index') cache' (map Ok (take (length trace) found'))
  unfolding answers cache_at_end
  played found n cache' index' found' room long none p =
      let k = capacity cache in
      let os = outcomes k (cached cache) trace in
      let pages = lru_after k (cached cache) trace in
      let rest = drop (2 + k) cache in
      let fit = fits cache trace (length index) (is_capacity k) refl none in
      let many = length_outcomes k (cached cache) trace in
      let all : take (length found) os ≡ os = take_all (length found) os (omega arith) in
      record {
        ready = λ _. p.left.again;
        same = ap capacity p.left.row ∙ row_capacity k pages rest;
        after = rw fit (ap cached p.left.row ∙ row_cached k pages rest);
        replied = rw fit
            (ap (λ (xs : List Outcome). map Ok (take (length trace) xs)) (p.told ∙ ap (λ (xs : List Outcome). xs ++ drop (length trace) found) all)
            ∙ ap (map Ok) (take_at os (drop (length trace) found) (length trace) many));
      }

  pub refused :
      (e : Refusal) (cache' index' : List ℕ) → Ready cache (length index) → first_wide trace ≡ None →
      refusal cache (length index) trace ≡ Some e → cache' ≡ cache → index' ≡ index → Answered cache trace (length index') cache' (replicate (length trace) (Err e))
  unfolding answers cache_at_end
  refused e cache' index' ready narrow some same_row same_index =
      let a = away cache trace (length index) (is_capacity (capacity cache)) e refl ready narrow some in
      let fit = a.no_capacity in
      record {
        ready = rw (same_row, same_index) ready;
        same = ap capacity same_row;
        after = rw fit (ap cached same_row);
        replied = rw (fit, a.why) refl;
      }
