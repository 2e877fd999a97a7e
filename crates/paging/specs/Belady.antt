-- Belady's rule, for who knows the requests to come: evict the page whose next use is furthest off. Assumes nothing: these are definitions.
--     next_use page coming               how many requests of coming stand before the next one for page; all where there is none
--     furthest cache coming best         of best and the pages of cache the one with the furthest next use, of several the first
--     belady h cache page coming         the cache after a request for page, with coming after it; the page that came in last stands first, and
--                                        of several with the furthest next use that one goes
--     belady_fetches h cache trace       how many requests of trace are fetched, beginning with cache
--     belady_schedule h cache trace      the caches after each request
--     none_later victim cache coming     no page of cache has a later next use than victim
--     full_miss h before page            page is not in before, which has no place left
--     evicts_furthest full gone before coming
--                                        of before these went: none, and at a full miss one with the furthest next use
--     furthest_first h before trace schedule
--                                        schedule, a feasible one, evicts only at a full miss, and then some page with the furthest next use
--     Fewest h trace n                   some schedule with h places fetches n from an empty cache, and none fetches fewer
use Rattle.std.specs.Prelude.{◌≡◌, ℕ, suc, ◌≤◌, Bool, true, false, cond, not, ◌&&◌, List, [], ◌∷◌, length, nat_le, nat_lt, slice_index_or}
use Rattle.paging.specs.Lists.{has, without, place}
use Rattle.paging.specs.Schedules.{feasible, schedule_fetches}
use Rattle.paging.specs.Stretches.{missing}

abbrev pub next_use : ℕ → List ℕ → ℕ
next_use page coming = place page coming

unfoldable pub furthest : List ℕ → List ℕ → ℕ → ℕ
furthest [] coming best = best
furthest (x ∷ xs) coming best = furthest xs coming (cond (nat_lt (next_use best coming) (next_use x coming)) x best)

unfoldable pub belady : ℕ → List ℕ → ℕ → List ℕ → List ℕ
belady h cache page coming =
    cond (has cache page) cache (page ∷ cond (nat_lt (length cache) h) cache (without (furthest cache coming (slice_index_or cache 0 page)) cache))

unfoldable pub belady_fetches : ℕ → List ℕ → List ℕ → ℕ
belady_fetches h cache [] = 0
belady_fetches h cache (page ∷ coming) =
    cond (has cache page) (belady_fetches h (belady h cache page coming) coming) (suc (belady_fetches h (belady h cache page coming) coming))

unfoldable pub belady_schedule : ℕ → List ℕ → List ℕ → List (List ℕ)
belady_schedule h cache [] = []
belady_schedule h cache (page ∷ coming) = belady h cache page coming ∷ belady_schedule h (belady h cache page coming) coming

unfoldable pub none_later : ℕ → List ℕ → List ℕ → Bool
none_later victim [] coming = true
none_later victim (x ∷ xs) coming = nat_le (next_use x coming) (next_use victim coming) && none_later victim xs coming

abbrev pub full_miss : ℕ → List ℕ → ℕ → Bool
full_miss h before page = not (has before page) && nat_le h (length before)

unfoldable pub evicts_furthest : Bool → List ℕ → List ℕ → List ℕ → Bool
evicts_furthest full [] before coming = not full
evicts_furthest full (victim ∷ []) before coming = full && none_later victim before coming
evicts_furthest full (victim ∷ x ∷ xs) before coming = false

unfoldable pub furthest_first : ℕ → List ℕ → List ℕ → List (List ℕ) → Bool
furthest_first h before [] schedule = true
furthest_first h before (page ∷ coming) [] = true
furthest_first h before (page ∷ coming) (cache ∷ schedule) =
    evicts_furthest (full_miss h before page) (missing cache before) before coming && furthest_first h cache coming schedule

pub record Fewest (h : ℕ) (trace : List ℕ) (n : ℕ) : Type 0 where
  pub schedule : List (List ℕ)
  pub fits : feasible h [] trace schedule ≡ true
  pub fetches : schedule_fetches [] trace schedule ≡ n
  pub least : (other : List (List ℕ)) → feasible h [] trace other ≡ true → n ≤ schedule_fetches [] trace other
