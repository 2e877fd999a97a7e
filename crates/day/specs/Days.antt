-- A day of requests as they come in. Assumes nothing.
--     kept day                  the requests that its report is made of: all of them, or the first 4,096
--     Begun header day          nothing was requested yet
--     Went day requests day'    day' is day after these requests
use Rattle.std.specs.Prelude.{◌≡◌, ℕ, ◌+◌, ◌-◌, ◌^◌, min, List, [], ◌++◌, length, take}
use Rattle.trace.specs.declared.headers.Header.{Header}
use Rattle.lru_cache.specs.Rows.{capacity, cached}
use Rattle.day.specs.Said.{cache_at_end}
use Rattle.day.specs.declared.days.Day.{Day}

abbrev pub kept : Day → List ℕ
kept day = take day.total day.first

pub record Begun (header : Header) (day : Day) : Type 0 where
  pub capacity_is : capacity day.cache ≡ header.capacity
  pub empty : cached day.cache ≡ []
  pub none : kept day ≡ []
  pub total : day.total ≡ 0
  pub reported : day.reported ≡ header.reported

pub record Went (day : Day) (requests : List ℕ) (day' : Day) : Type 0 where
  pub same : capacity day'.cache ≡ capacity day.cache
  pub after : cached day'.cache ≡ cache_at_end (capacity day.cache) (cached day.cache) requests
  pub first : kept day' ≡ take 4096 (kept day ++ requests)
  -- a count of 2^64 and more is not told apart
  pub total : day'.total ≡ min (day.total + length requests) (2 ^ 64 - 1)
  pub reported : day'.reported ≡ day.reported
