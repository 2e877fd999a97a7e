-- A day that goes on, piece by piece: trace's `requests_in_pieces` says that the pieces' requests are those of the input. Assumes nothing.
--     went_on         after some requests and then others, a day is where it is after all of them
--     said_on         the lines of both, one after the other, are those of all of them
use Rattle.std.proofs.Common.{◌≡◌, ℕ, zero, suc, List, [], ◌∷◌, ◌++◌, take, sym, refl, ap, ◌∙◌, append_assoc, arith}
use Rattle.std.proofs.lemmas.List.{length-append}
use Rattle.lru_cache.specs.Rows.{capacity, cached}
use Rattle.day.specs.Said.{lines_for, cache_at_end}
use Rattle.day.specs.Days.{kept, Went}
use Rattle.day.specs.declared.days.Day.{Day}
use Rattle.day.proofs.Lines.{lines_append, cache_append}

-- what is cut off stays cut off
cut_again : (n : ℕ) (xs ys : List ℕ) → take n (take n xs ++ ys) ≡ take n (xs ++ ys)
cut_again zero xs ys = refl
cut_again (suc n) [] ys = refl
cut_again (suc n) (x ∷ xs) ys = ap (λ (l : List ℕ). x ∷ l) (cut_again n xs ys)

module _ (day : Day) (xs ys : List ℕ) (day₁ : Day) (went : Went day xs day₁) where
  pub went_on : (day₂ : Day) → Went day₁ ys day₂ → Went day (xs ++ ys) day₂
  went_on day₂ more =
      let k = capacity day.cache in
      let long = length-append xs ys in
      record {
        same = more.same ∙ went.same;
        after = more.after
            ∙ ap (λ (j : ℕ). cache_at_end j (cached day₁.cache) ys) went.same
            ∙ ap (λ (pages : List ℕ). cache_at_end k pages ys) went.after
            ∙ sym (cache_append k (cached day.cache) xs ys);
        first = more.first
            ∙ ap (λ (pages : List ℕ). take 4096 (pages ++ ys)) went.first
            ∙ cut_again 4096 (kept day ++ xs) ys
            ∙ ap (take 4096) (append_assoc (kept day) xs ys);
        total = omega (arith, more.total, went.total, long);
        reported = more.reported ∙ went.reported;
      }

  pub said_on :
      lines_for (capacity day.cache) (cached day.cache) xs ++ lines_for (capacity day₁.cache) (cached day₁.cache) ys
      ≡ lines_for (capacity day.cache) (cached day.cache) (xs ++ ys)
  said_on = rw (went.same, went.after) (sym (lines_append (capacity day.cache) (cached day.cache) xs ys))
