-- What a function answers as one number. Assumes nothing: these are definitions.
--     packed tag value     the tag in the low byte and the value above it; a value that does not fit is told as the largest that does
--     as_count n           something was done, and this many are counted
--     as_page page         this page is requested
--     as_unknown n         there is no policy of that number
--     starved              there is no memory
--     as_refusal e         something was turned away: 16 and the reason's number, and its place
--     as_told reply        a request was served, 0 for a hit, 1 for a fetch into a free place, 2 for one in the place of another page; or it
--                          was turned away
use Rattle.std.specs.Prelude.{ℕ, ◌+◌, ◌*◌, min, Ok, Err, Result}
use Rattle.lru_cache.specs.declared.refusals.Refusal.{Refusal}
use Rattle.lru_cache.specs.Refusals.{number_of, place_of}
use Rattle.recency.specs.declared.uses.Outcome.{Outcome}
use Rattle.recency.specs.declared.uses.Outcome.TheVariants.{Hit, Filled, Evicted}

unfoldable pub packed : ℕ → ℕ → ℕ
packed tag value = tag + 256 * min value 72057594037927935

abbrev pub as_count : ℕ → ℕ
as_count n = packed 3 n

abbrev pub as_page : ℕ → ℕ
as_page page = packed 4 page

abbrev pub as_unknown : ℕ → ℕ
as_unknown n = packed 5 n

abbrev pub starved : ℕ
starved = packed 6 0

abbrev pub as_refusal : Refusal → ℕ
as_refusal e = packed (16 + number_of e) (place_of e)

abbrev pub as_told : Result Outcome Refusal → ℕ
as_told (Ok Hit) = packed 0 0
as_told (Ok Filled) = packed 1 0
as_told (Ok (Evicted page)) = packed 2 page
as_told (Err e) = as_refusal e
