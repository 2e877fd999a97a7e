-- A cache that Belady's rule keeps, with the next use of each of its pages. Assumes nothing: these are definitions.
--     held f                           its pages, the one that came into it last first
--     Kept h trace i pages keys n      after the first i requests of trace the first n of pages are the cache of h places, and the first n of
--                                      keys the next uses of its pages; what is still to come makes the rest of the schedule
--     Ready trace i f                  so it is with f
--     Latest keys n at                 the largest of the first n keys stands at this place, and none before it is as large
--     Place h keys n at                a page that comes takes this place: the next free one, else that of the page whose next use is furthest
use Rattle.std.specs.Prelude.{◌≡◌, ℕ, ◌+◌, ◌<◌, ◌≤◌, true, List, [], take, drop, slice_index}
use Rattle.paging.specs.Belady.{next_use, belady_schedule}
use Rattle.paging.specs.Lists.{distinct}
use Rattle.belady.specs.declared.foresight.Foresight.{Foresight}

abbrev pub held : Foresight → List ℕ
held f = take f.len f.pages

pub record Kept (h : ℕ) (trace : List ℕ) (i : ℕ) (pages keys : List ℕ) (n : ℕ) : Type 0 where
  pub low : 1 ≤ h
  pub high : h ≤ 4096
  pub few : n ≤ h
  pub once : distinct (take n pages) ≡ true
  pub keyed : (j : ℕ) → j < n → slice_index keys j ≡ i + next_use (slice_index pages j) (drop i trace)
  pub due : belady_schedule h (take n pages) (drop i trace) ≡ drop i (belady_schedule h [] trace)

abbrev pub Ready : List ℕ → ℕ → Foresight → Type 0
Ready trace i f = Kept f.capacity.places trace i f.pages f.keys f.len

pub record Latest (keys : List ℕ) (n at : ℕ) : Type 0 where
  pub within : at < n
  pub most : (j : ℕ) → j < n → slice_index keys j ≤ slice_index keys at
  pub first : (j : ℕ) → j < at → slice_index keys j < slice_index keys at

pub record Place (h : ℕ) (keys : List ℕ) (n at : ℕ) : Type 0 where
  pub free : n < h → at ≡ n
  pub full : h ≤ n → Latest keys n at
