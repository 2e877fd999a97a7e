-- The lines of a trace, request by request and piece by piece. Assumes nothing.
--     lines_more       one request on: what is said so far and what is left to say come to the same text
--     lines_done       nothing is left to say at the end
--     lines_append     the lines of two traces, one after the other
--     cache_append     and so for the cache
use Rattle.std.proofs.Common.{◌≡◌, ℕ, Bool, true, false, ◌⊎◌, List, [], ◌∷◌, ◌++◌, length, sym, refl, ap, ◌∙◌, append_assoc, append-nil, map, Ok, Err, arith}
use Rattle.std.proofs.lemmas.List.{length-append, length-map, map-append, length-replicate, replicate-append-replicate}
use Rattle.paging.proofs.Fronts.{after_append}
use Rattle.paging.specs.Lru.{lru, lru_after}
use Rattle.recency.specs.Outcome.{outcome}
use Rattle.recency.specs.declared.uses.Outcome.{Outcome}
use Rattle.lru_cache.specs.Outcomes.{outcomes}
use Rattle.lru_cache.specs.declared.refusals.Refusal.TheVariants.{NoCache}
use Rattle.lru_cache.proofs.Runs.{length_outcomes}
use Rattle.day.specs.Said.{is_capacity, Reply, answers, cache_at_end, said, lines_of, lines_for}

no_lines : (trace : List ℕ) (rs : List Reply) → (length trace ≡ 0) ⊎ (length rs ≡ 0) → lines_of trace rs ≡ []
unfolding lines_of
no_lines [] rs end = refl
no_lines (page ∷ trace) [] end = refl
no_lines (page ∷ trace) (r ∷ rs) end = absurd (omega arith)

module _ (trace : List ℕ) (rs : List Reply) (text all : List ℕ) where
  pub lines_more :
      (page : ℕ) (r : Reply) (text' : List ℕ) → text' ≡ text ++ (said page r ++ (10 ∷ [])) → text ++ lines_of (page ∷ trace) (r ∷ rs) ≡ all →
      text' ++ lines_of trace rs ≡ all
  unfolding lines_of
  lines_more page r text' f was = rw (f, append_assoc, append_assoc) was

  pub lines_done : (length trace ≡ 0) ⊎ (length rs ≡ 0) → text ++ lines_of trace rs ≡ all → text ≡ all
  lines_done end was = let none : lines_of trace rs ≡ [] = no_lines trace rs end in sym (append-nil text) ∙ (rw none at was)

-- what the replies to a trace say are its lines
pub lines_answered : (k : ℕ) (cache trace trace' : List ℕ) (rs : List Reply) → trace ≡ trace' → rs ≡ answers k cache trace → lines_of trace rs ≡ lines_for k cache trace'
unfolding lines_for
lines_answered k cache trace trace' rs e replied = ap (lines_of trace) replied ∙ ap (λ (ts : List ℕ). lines_of ts (answers k cache ts)) e

said_append : (xs ys : List ℕ) (rs ss : List Reply) → length xs ≡ length rs → lines_of (xs ++ ys) (rs ++ ss) ≡ lines_of xs rs ++ lines_of ys ss
unfolding lines_of
said_append [] ys [] ss same = refl
said_append [] ys (r ∷ rs) ss same = absurd (omega arith)
said_append (x ∷ xs) ys [] ss same = absurd (omega arith)
said_append (x ∷ xs) ys (r ∷ rs) ss same =
    ap (λ (l : List ℕ). said x r ++ (10 ∷ l)) (said_append xs ys rs ss (omega arith))
    ∙ sym (append_assoc (said x r) (10 ∷ lines_of xs rs) (lines_of ys ss))

outcomes_append : (k : ℕ) (cache xs ys : List ℕ) → outcomes k cache (xs ++ ys) ≡ outcomes k cache xs ++ outcomes k (lru_after k cache xs) ys
unfolding outcomes lru_after
outcomes_append k cache [] ys = refl
outcomes_append k cache (x ∷ xs) ys = ap (λ (os : List Outcome). outcome k cache x ∷ os) (outcomes_append k (lru k cache x) xs ys)

module _ (k : ℕ) (cache xs ys : List ℕ) where
  answers_append : (b : Bool) → is_capacity k ≡ b → answers k cache (xs ++ ys) ≡ answers k cache xs ++ answers k (cache_at_end k cache xs) ys
  unfolding answers cache_at_end
  answers_append true is = simp is (ap (map Ok) (outcomes_append k cache xs ys) ∙ map-append Ok (outcomes k cache xs) (outcomes k (lru_after k cache xs) ys))
  answers_append false is =
      let long = length-append xs ys in
      simp (is, long) (sym (replicate-append-replicate (length xs) (length ys) (Err NoCache)))

  answers_long : (b : Bool) → is_capacity k ≡ b → length xs ≡ length (answers k cache xs)
  unfolding answers
  answers_long true is = simp is (sym (length-map (outcomes k cache xs) Ok ∙ length_outcomes k cache xs))
  answers_long false is = simp is (sym (length-replicate (length xs) (Err NoCache)))

  cached_append : (b : Bool) → is_capacity k ≡ b → cache_at_end k cache (xs ++ ys) ≡ cache_at_end k (cache_at_end k cache xs) ys
  unfolding cache_at_end
  cached_append true is = simp is (after_append k cache xs ys)
  cached_append false is = simp is

  pub cache_append : cache_at_end k cache (xs ++ ys) ≡ cache_at_end k (cache_at_end k cache xs) ys
  cache_append = cached_append (is_capacity k) refl

  pub lines_append : lines_for k cache (xs ++ ys) ≡ lines_for k cache xs ++ lines_for k (cache_at_end k cache xs) ys
  unfolding lines_for
  lines_append =
      ap (lines_of (xs ++ ys)) (answers_append (is_capacity k) refl)
      ∙ said_append xs ys (answers k cache xs) (answers k (cache_at_end k cache xs) ys) (answers_long (is_capacity k) refl)
