-- The rows after a trace: what they hold, and that the cache row is one that is served again.
use Rattle.std.proofs.Common.{◌≡◌, ℕ, ◌+◌, ◌-◌, ◌*◌, ◌^◌, ◌<◌, ◌≤◌, true, leb, List, [], ◌∷◌, ◌++◌, length, get_or, take, replicate, None, refl, ◌∙◌, append_assoc, arith}
use Rattle.std.proofs.lemmas.List.{take_at, length-append, length-replicate, length-take}
use Rattle.std.proofs.lemmas.Bool.Decides.{nat_tests}
use Rattle.paging.specs.Lists.{has, without, distinct}
use Rattle.paging.specs.Lru.{lru, lru_after}
use Rattle.lru_cache.specs.Rows.{capacity, cached, row_of, shaped, first_bad, fault, first_wide}
use Rattle.paging.proofs.Lists.{has_from_take, has_from_without}
use Rattle.paging.proofs.Requests.{lru_distinct}
use Rattle.lru_cache.specs.Promises.{Small}
use Rattle.lru_cache.proofs.Faults.{fault_pages, fine_none, none_bad}
use Rattle.lru_cache.specs.declared.refusals.Refusal.TheVariants.{BadRequest}

module _ (k : ℕ) (pages rest : List ℕ) where
  pub row_capacity : capacity (row_of k pages rest) ≡ k
  unfolding row_of
  row_capacity = refl

  pub row_cached : cached (row_of k pages rest) ≡ pages
  unfolding row_of
  row_cached = rw append_assoc (take_at pages (replicate (k - length pages) 0 ++ rest) (length pages) refl)

  row_many : get_or (row_of k pages rest) 1 0 ≡ length pages
  unfolding row_of
  row_many = refl

  pub row_length : length pages ≤ k → length (row_of k pages rest) ≡ 2 + k + length rest
  unfolding row_of
  row_length few =
      let a = length-append (pages ++ replicate (k - length pages) 0) rest in
      let b = length-append pages (replicate (k - length pages) 0) in
      let c : length (replicate {A = ℕ} (k - length pages) 0) ≡ k - length pages = length-replicate (k - length pages) 0 in
      omega arith

  -- the row is one again
  pub row_again : (m : ℕ) → 1 ≤ k → k ≤ 4096 → 9 * k + 5 ≤ m → length pages ≤ k → distinct pages ≡ true → Small pages → fault (row_of k pages rest) m ≡ None
  unfolding has
  row_again m low high room few once small =
      let l = row_length few in
      let c = row_capacity in
      let n = row_many in
      let good : shaped (row_of k pages rest) m ≡ true = grind (arith, nat_tests) in
      let none : first_bad 2 [] (cached (row_of k pages rest)) ≡ None =
      rw row_cached (fine_none 2 [] pages (record { once = once; small = small; apart = λ x there. refl })) in
      fault_pages (row_of k pages rest) m good (omega arith) ∙ none

-- requests keep the pages small, each once, and no more than there are places
lru_small : (k : ℕ) (cache : List ℕ) (page : ℕ) → page < 2 ^ 32 → Small cache → Small (lru k cache page)
unfolding lru has
lru_small k cache page small fit x there =
    let a = has_from_take k (page ∷ without page cache) x there in
    let b = has_from_without page cache x in
    let c = fit x in
    grind (arith, nat_tests)

narrow : (page : ℕ) (trace : List ℕ) → first_wide (page ∷ trace) ≡ None → (page < 2 ^ 32) × (first_wide trace ≡ None)
unfolding first_wide
narrow page trace none =
    let n = none_bad (leb (2 ^ 32) page) (BadRequest page) (first_wide trace) none in
    let small = n.0 in
    (grind (arith, nat_tests), n.1)

pub after_small : (k : ℕ) (cache trace : List ℕ) → first_wide trace ≡ None → Small cache → Small (lru_after k cache trace)
unfolding lru_after
after_small k cache [] none fit = fit
after_small k cache (page ∷ trace) none fit =
    let n = narrow page trace none in
    after_small k (lru k cache page) trace n.1 (lru_small k cache page n.0 fit)

pub after_once : (k : ℕ) (cache trace : List ℕ) → distinct cache ≡ true → distinct (lru_after k cache trace) ≡ true
unfolding lru_after
after_once k cache [] once = once
after_once k cache (page ∷ trace) once = after_once k (lru k cache page) trace (lru_distinct k page cache once)

pub after_few : (k : ℕ) (cache trace : List ℕ) → length cache ≤ k → length (lru_after k cache trace) ≤ k
unfolding lru_after lru
after_few k cache [] few = few
after_few k cache (page ∷ trace) few =
    let l = length-take k (page ∷ without page cache) in
    after_few k (take k (page ∷ without page cache)) trace (omega arith)
