-- What the definitions come to on short traces. Assumes nothing.
use Rattle.std.proofs.Common.{◌≡◌, ℕ, List, [], ◌∷◌, ◌++◌, codes, refl}
use Rattle.std.specs.Fmt.{digits}
use Rattle.paging.specs.Belady.{furthest, belady, belady_fetches}
use Rattle.paging.specs.Lists.{has, without, last_of, place}
use Rattle.paging.specs.Lru.{lru, lru_fetches}
use Rattle.recency.specs.Outcome.{outcome}
use Rattle.lru_cache.specs.Outcomes.{outcomes}
use Rattle.day.specs.Reports.{counts_lines, report_of}
use Rattle.day.specs.Said.{answers, lines_of, lines_for}

-- lines, each with its line break
abbrev text : List (List ℕ) → List ℕ
text [] = []
text (line ∷ lines) = line ++ (10 ∷ text lines)

ten_requests : lines_for 3 [] (1 ∷ 2 ∷ 3 ∷ 1 ∷ 4 ∷ 1 ∷ 2 ∷ 5 ∷ 3 ∷ 1 ∷ []) ≡ text (codes "1: fetched" ∷ codes "2: fetched" ∷ codes "3: fetched" ∷ codes "1: here" ∷ codes "4: fetched for 2" ∷ codes "1: here" ∷ codes "2: fetched for 3" ∷ codes "5: fetched for 4" ∷ codes "3: fetched for 1" ∷ codes "1: fetched for 2" ∷ [])
unfolding lines_for lines_of answers outcomes outcome lru has without last_of digits
ten_requests = refl

no_capacity : lines_for 0 [] (7 ∷ 7 ∷ []) ≡ text (codes "refused 1 at 0" ∷ codes "refused 1 at 0" ∷ [])
unfolding lines_for lines_of answers digits
no_capacity = refl

too_large : lines_for 4097 [] (7 ∷ []) ≡ text (codes "refused 1 at 0" ∷ [])
unfolding lines_for lines_of answers digits
too_large = refl

ten_report : report_of (1 ∷ 2 ∷ 3 ∷ 1 ∷ 4 ∷ 1 ∷ 2 ∷ 5 ∷ 3 ∷ 1 ∷ []) 10 4 ≡ text (codes "1: house 10 known 10" ∷ codes "2: house 9 known 7" ∷ codes "3: house 8 known 6" ∷ codes "4: house 6 known 5" ∷ [])
unfolding report_of counts_lines lru_fetches lru belady_fetches belady furthest has without place digits
ten_report = refl

no_requests : report_of [] 0 2 ≡ text (codes "1: house 0 known 0" ∷ codes "2: house 0 known 0" ∷ [])
unfolding report_of counts_lines lru_fetches belady_fetches digits
no_requests = refl

no_capacities : report_of (7 ∷ []) 1 0 ≡ text (codes "refused 5 at 0" ∷ [])
unfolding report_of digits
no_capacities = refl

too_many_capacities : report_of (7 ∷ []) 1 4097 ≡ text (codes "refused 5 at 4097" ∷ [])
unfolding report_of digits
too_many_capacities = refl

too_many_requests : report_of (7 ∷ []) 4097 0 ≡ text (codes "refused 4 at 4097" ∷ [])
unfolding report_of digits
too_many_requests = refl
