-- What is promised of a report on a lent row, for every answer r. Assumes nothing: these are definitions.
--     Written trace m row r row'    row' is the report of trace for 1, 2 .. m places, and beyond it what row was
--     Unwritten e row r row'        that was the reason not to make one, and the row is as it was
use Rattle.std.specs.Prelude.{◌≡◌, ℕ, List}
use Rattle.belady.specs.Reported.{Reported}
use Rattle.lru_cache.specs.declared.refusals.Refusal.{Refusal}
use Rattle.ffi.specs.Numbers.{as_count, as_refusal}

pub record Written (trace : List ℕ) (m : ℕ) (row : List ℕ) (r : ℕ) (row' : List ℕ) : Type 0 where
  pub value : r ≡ as_count m
  pub reported : Reported trace m row row'

pub record Unwritten (e : Refusal) (row : List ℕ) (r : ℕ) (row' : List ℕ) : Type 0 where
  pub value : r ≡ as_refusal e
  pub same : row' ≡ row
