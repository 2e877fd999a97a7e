use Rattle.std.proofs.Common.{◌≡◌, ℕ, ◌+◌, ◌-◌, ◌≤◌, false, List, [], get_or, None, Some, Option, Result, MatchOption, MatchResult, sym, refl, ◌∙◌, arith}
use Rattle.std.specs.Option.{ok_or}
use Rattle.std.proofs.lemmas.Result.{err_from_is_err_and}
use Rattle.lru_cache.specs.Promises.{Shaped}
use Rattle.lru_cache.specs.Rows.{capacity, cached, shaped}
use Rattle.recency.specs.declared.layout.Capacity.{Capacity}
use Rattle.lru_cache.specs.declared.refusals.Refusal.{Refusal}
use Rattle.lru_cache.specs.declared.refusals.Refusal.TheVariants.{NoCache}
use Rattle.lru_cache.proofs.Faults.{fault_unshaped, fault_overfull, fault_pages, fine}
use Rattle.lru_cache.proofs.checks.check.Goals as goal

-- what the shape says is handed on by `ok_or`
shape_told :
    (row : List ℕ) (m : ℕ) (o : Option Capacity) (r : Result Capacity Refusal) → MatchOption o (shaped row m ≡ false) (λ k. Shaped row m k.places) →
    r ≡ ok_or o NoCache → MatchResult r (λ k. Shaped row m k.places) (λ e. (shaped row m ≡ false) × (e ≡ NoCache))
shape_told row m None r bad is = rw is (bad, refl)
shape_told row m (Some k) r good is = rw is good

pub returns-in_err-k : goal.returns-in_err-k
returns-in_err-k c =
    let p = err_from_is_err_and c.from_residual.result c.from_residual.ensures.1 in
    let s = shape_told c.args.cache.now c.args.index_len c.shape.result _ c.shape.ensures.cases c.in_err-k.ensures.value in
    rw (p.1, p.2) (record { cases = rw s.1 (fault_unshaped _ _ s.0) })

pub returns-then-n-k : goal.returns-then-n-k
returns-then-n-k c =
    let s = shape_told c.args.cache.now c.args.index_len c.shape.result _ c.shape.ensures.cases c.in_ok-k.ensures.value in
    record { cases = fault_overfull _ _ s.is (omega arith) }

pub returns-in_err-first_fault : goal.returns-in_err-first_fault
returns-in_err-first_fault c =
    let p = err_from_is_err_and c.from_residual-in_err-first_fault.result c.from_residual-in_err-first_fault.ensures.1 in
    let s = shape_told c.args.cache.now c.args.index_len c.shape.result _ c.shape.ensures.cases c.in_ok-k.ensures.value in
    let row = c.args.cache.now in
    let few : get_or row 1 0 ≤ capacity row = omega arith in
    let same : 2 + get_or row 1 0 - 2 ≡ get_or row 1 0 = omega arith in
    rw (p.1, p.2) (record { cases = fault_pages row c.args.index_len s.is few ∙ sym (rw same at c.in_err-first_fault.ensures.value) })

pub returns : goal.returns
returns c =
    let s = shape_told c.args.cache.now c.args.index_len c.shape.result _ c.shape.ensures.cases c.in_ok-k.ensures.value in
    let row = c.args.cache.now in
    let few : get_or row 1 0 ≤ capacity row = omega arith in
    let same : 2 + get_or row 1 0 - 2 ≡ get_or row 1 0 = omega arith in
    let none = sym (rw same at c.in_ok-first_fault.ensures.value) in
    let f = fine 2 [] (cached row) none in
    record {
      cases = record {
        capacity_is = s.capacity_is;
        many = refl;
        low = s.low;
        high = s.high;
        long = s.long;
        room = s.room;
        few = omega arith;
        once = f.once;
        small = f.small;
        none = fault_pages row c.args.index_len s.is few ∙ none;
      };
    }
