-- A page carried down a row of pages with their next uses. Assumes nothing: these are definitions.
--     Carried trace i entry pages keys n k carry key     for the i-th request of trace a page has been carried down to place k of a row, which was
--                                                        entry and is the first n of pages; carry is the page carried now, and key its next use
--     Sifts trace i entry pages keys n k carry key       and k is where the page requested stands, or the end
use Rattle.std.specs.Prelude.{◌≡◌, ℕ, ◌+◌, ◌<◌, ◌≤◌, List, drop, slice_index}
use Rattle.paging.specs.Belady.{next_use}
use Rattle.paging.proofs.Keyed.{Keyed}
use Rattle.paging.proofs.Sifting.{Sifting}

pub record Carried (trace : List ℕ) (i : ℕ) (entry pages keys : List ℕ) (n k carry key : ℕ) : Type 0 where
  pub sifting : Sifting (drop i trace) (slice_index trace i) entry pages n k carry
  pub keyed : Keyed trace i pages keys n
  pub is_key : key ≡ i + next_use carry (drop i trace)

pub record Sifts (trace : List ℕ) (i : ℕ) (entry pages keys : List ℕ) (n k carry key : ℕ) : Type 0 where
  pub carried : Carried trace i entry pages keys n k carry key
  pub far : k ≤ n
  pub stops : k < n → slice_index pages k ≡ slice_index trace i
