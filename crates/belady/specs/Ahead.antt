-- When the page of each request is requested next. Assumes nothing: these are definitions.
--     next_at trace i      where the next request for the page of the i-th stands in trace; the length of trace where there is none
--     Nexts trace next     next has this for each request of trace
use Rattle.std.specs.Prelude.{◌≡◌, ℕ, ◌+◌, ◌<◌, List, length, drop, slice_index}
use Rattle.paging.specs.Belady.{next_use}

abbrev pub next_at : List ℕ → ℕ → ℕ
next_at trace i = (i + 1) + next_use (slice_index trace i) (drop (i + 1) trace)

abbrev pub Nexts : List ℕ → List ℕ → Type 0
Nexts trace next = (i : ℕ) → i < length trace → slice_index next i ≡ next_at trace i
