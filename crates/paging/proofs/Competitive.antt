-- LRU with k places fetches at most k / (k - h + 1) times what any schedule with h places fetches, by a potential.
--     potential k cache pages     the depths in the LRU cache of the pages that the schedule holds, added up
use Rattle.std.proofs.Common.{◌≡◌, ℕ, suc, ◌+◌, ◌-◌, ◌*◌, ◌≤◌, Bool, true, false, cond, List, [], ◌∷◌, length, arith}
use Rattle.std.proofs.lemmas.Bool.Decides.{nat_tests}
use Rattle.paging.specs.Claims.{Competitive, CompetitiveFrom}
use Rattle.paging.specs.Lists.{has, distinct}
use Rattle.paging.specs.Lru.{lru, lru_fetches}
use Rattle.paging.specs.Schedules.{only_adds, feasible, schedule_fetches}
use Rattle.paging.proofs.Depth.{depth, closer, depth_le, depth_absent, depth_lru, depth_first, closer_few, closer_others}
use Rattle.paging.proofs.Schedules.{only_adds_total}
use Rattle.paging.proofs.Weights.{total, total_add, total_le, total_apart}

unfoldable pub potential : ℕ → List ℕ → List ℕ → ℕ
potential k cache pages = total (depth k cache) pages

-- LRU's move: the page requested, at the front now, pays for those that were less deep
lru_moves :
    (k p : ℕ) (cache pages : List ℕ) → distinct pages ≡ true → has pages p ≡ true →
    potential k (lru k cache p) pages + depth k cache p ≤ potential k cache pages + total (closer k cache (depth k cache p)) pages
unfolding potential
lru_moves k p cache pages u h =
    let d = depth k cache p in
    let near = closer k cache d in
    let front : depth k (lru k cache p) p + d ≤ depth k cache p + near p + 0 = omega (arith, depth_first k p cache) in
    let i = total_apart (depth k (lru k cache p)) (λ x. depth k cache x + near x) p d 0 pages u (depth_lru k p cache) front in
    let j = total_add (depth k cache) near pages in
    grind (arith, nat_tests)

-- one request: what LRU's fetch weighs and the new potential are covered by the schedule's fetch and the old one
step :
    (k h : ℕ) (cache before : List ℕ) (p : ℕ) (after : List ℕ) → h ≤ k → length after ≤ h → distinct after ≡ true → has after p ≡ true →
    only_adds after p before ≡ true →
    cond (has cache p) 0 (suc k - h) + potential k (lru k cache p) after ≤ cond (has before p) 0 k + potential k cache before
unfolding potential
step k h cache before p after le fits u here adds =
    let moves = lru_moves k p cache after u here in
    let added = only_adds_total (depth k cache) after p before u adds in
    let most = depth_le k cache p in
    let gone = depth_absent k cache p in
    let few = closer_few k cache (depth k cache p) after u most in
    let others = closer_others k cache p after u here in
    grind (arith, nat_tests)

-- a count that goes up at a miss, times what a miss weighs
pub counted : (a : ℕ) (hit : Bool) (n : ℕ) → a * cond hit n (suc n) ≡ cond hit 0 a + a * n
counted a true n = omega arith
counted a false n = omega arith

-- from any two caches
bound :
    (k h : ℕ) (cache before trace : List ℕ) (schedule : List (List ℕ)) → h ≤ k → feasible h before trace schedule ≡ true →
    (suc k - h) * lru_fetches k cache trace ≤ k * schedule_fetches before trace schedule + potential k cache before
unfolding feasible lru_fetches schedule_fetches
bound k h cache before [] schedule le ok = omega arith
bound k h cache before (p ∷ trace) [] le ok = grind (arith, nat_tests)
bound k h cache before (p ∷ trace) (after ∷ schedule) le ok =
    let i = bound k h (lru k cache p) after trace schedule le in
    let s = step k h cache before p after le in
    let a = counted (suc k - h) (has cache p) (lru_fetches k (lru k cache p) trace) in
    let b = counted k (has before p) (schedule_fetches after trace schedule) in
    grind (arith, nat_tests)

pub competitive_from : CompetitiveFrom
unfolding potential
competitive_from k h cache trace start schedule _ le ok =
    let i = bound k h cache start trace schedule le ok in
    let j = total_le (depth k cache) k start (depth_le k cache) in
    omega arith

pub competitive : Competitive
competitive k h trace schedule pos le ok = omega (arith, competitive_from k h [] trace [] schedule pos le ok)
