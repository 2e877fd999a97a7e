-- Rules that fail: three online policies that fetch as often as one likes where a schedule with as many places fetches hardly at all.
-- Assumes nothing: these are definitions.
--     last_requested_goes k history   of a full cache the page requested last goes; a cache lists its pages, the one requested last first
--     Entry                           a page with how often it was requested since it came into the cache
--     pages_in entries                the pages
--     count_of entries page           the count of page, and 0 where it is not there
--     others page entries             the entries of other pages
--     fewest entries                  the least count
--     counted c entries               some entry has the count c
--     spared c entries                entries without the last one that has the count c
--     entries k history               what the least requested leaves: of a full cache the page with the least count goes, of several the
--                                     one requested longest ago; the entry requested last first
--     least_requested_goes k history  the pages of that
--     elsewhere k page cache          the pages of cache whose number modulo k is another than that of page
--     direct_mapped k history         a page stands at its number modulo k and nowhere else
--     Fails rule                      for every n and k ≥ 2 there is a trace of which rule with k places fetches at least n requests, and
--                                     a schedule with k places at most k + 1
--     LeastRequestedFails, LastRequestedFails, DirectMappedFails
use Rattle.std.specs.Prelude.{◌≡◌, ℕ, suc, ◌%◌, ◌≤◌, min, Bool, true, false, cond, not, ◌&&◌, ◌||◌, List, [], ◌∷◌, length, drop, ◌==◌, nat_lt}
use Rattle.paging.specs.Lists.{has, without}
use Rattle.paging.specs.Policies.{Policy, history_after, policy_fetches}
use Rattle.paging.specs.Schedules.{feasible, schedule_fetches}

unfoldable pub last_requested_goes : ℕ → Policy
last_requested_goes k [] = []
last_requested_goes k (page ∷ history) =
    let cache : List ℕ = last_requested_goes k history in
    page ∷ without page (cond (has cache page || nat_lt (length cache) k) cache (drop 1 cache))

pub record Entry : Type 0 where
  pub page : ℕ
  pub count : ℕ

unfoldable pub pages_in : List Entry → List ℕ
pages_in [] = []
pages_in (e ∷ es) = e.page ∷ pages_in es

unfoldable pub count_of : List Entry → ℕ → ℕ
count_of [] page = 0
count_of (e ∷ es) page = cond (e.page == page) e.count (count_of es page)

unfoldable pub others : ℕ → List Entry → List Entry
others page [] = []
others page (e ∷ es) = cond (e.page == page) (others page es) (e ∷ others page es)

unfoldable pub fewest : List Entry → ℕ
fewest [] = 0
fewest (e ∷ []) = e.count
fewest (e ∷ f ∷ es) = min e.count (fewest (f ∷ es))

unfoldable pub counted : ℕ → List Entry → Bool
counted c [] = false
counted c (e ∷ es) = e.count == c || counted c es

unfoldable pub spared : ℕ → List Entry → List Entry
spared c [] = []
spared c (e ∷ es) = cond (e.count == c && not (counted c es)) es (e ∷ spared c es)

unfoldable pub entries : ℕ → List ℕ → List Entry
entries k [] = []
entries k (page ∷ history) =
    let es : List Entry = entries k history in
    let here : Bool = has (pages_in es) page in
    record { page = page; count = suc (count_of es page) }
    ∷ others page (cond (here || nat_lt (length es) k) es (spared (fewest es) es))

unfoldable pub least_requested_goes : ℕ → Policy
least_requested_goes k history = pages_in (entries k history)

unfoldable pub elsewhere : ℕ → ℕ → List ℕ → List ℕ
elsewhere k page [] = []
elsewhere k page (x ∷ xs) = cond (x % k == page % k) (elsewhere k page xs) (x ∷ elsewhere k page xs)

unfoldable pub direct_mapped : ℕ → Policy
direct_mapped k [] = []
direct_mapped k (page ∷ history) = page ∷ elsewhere k page (direct_mapped k history)

abbrev pub Fails : (ℕ → Policy) → Type 0
Fails rule =
    (k n : ℕ) → 2 ≤ k →
    (trace : List ℕ)
    × (schedule : List (List ℕ))
    × (n ≤ policy_fetches (rule k) (history_after [] trace))
    × (feasible k [] trace schedule ≡ true)
    × (schedule_fetches [] trace schedule ≤ suc k)

abbrev pub LeastRequestedFails : Type 0
LeastRequestedFails = Fails least_requested_goes

abbrev pub LastRequestedFails : Type 0
LastRequestedFails = Fails last_requested_goes

abbrev pub DirectMappedFails : Type 0
DirectMappedFails = Fails direct_mapped
