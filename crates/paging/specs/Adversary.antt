-- The adversary: requests that beat any online policy with k places, and a schedule with h places beside them, 0 < h ≤ k.
-- Assumes nothing: these are definitions.
--     fresh c n                     c pages that were never requested: n, n + 1 ..
--     first_missing pages cache     the first of pages that does not stand in cache, and 0 where each does
--     once_each seen pages          seen, and behind it the pages that are not there yet, each once, in their order
--     below n pages                 the pages below n
--     Round                         where a round begins: the schedule's list, the next new page, the requests so far, the latest first
--     opened h                      where the first round begins: pages 1, 2 .. h were requested
--     new_pages k h r               the first part of round r: k - h + 1 new pages
--     pages_of k h r                the round's list: the schedule's list, and then the new pages
--     picks policy pages history c  c requests, each for the first of pages that the policy's cache lacks when it comes
--     second_part k h policy r      the second part of round r: h - 1 picks of the round's list
--     requests k h policy r         both parts
--     last_new k h r                the last new page of round r
--     next_list k h policy r        the schedule's list at the end of round r: the pages of the second part, each once, in the order of
--                                   first request; the last new page; pages of the round's list in order; h of them
--     next_round k h policy r       where the round after r begins
--     rounds k h policy m r         where the m-th round after r begins
--     trace_from k h policy m r     the requests of m rounds, beginning with r
--     held pages n                  the schedule's cache after new page n, where pages is its list at the end of the round
--     served pages news             the schedule's caches after each of the new pages
--     schedule_from k h policy m r  the schedule's caches after each request of m rounds, beginning with r
--     adversary k h policy m        the requests of the opening and m rounds
--     beside k h policy m           the schedule's caches after each of them
use Rattle.std.specs.Prelude.{ℕ, zero, suc, ◌+◌, ◌-◌, cond, List, [], ◌∷◌, ◌++◌, take, replicate, nat_lt}
use Rattle.paging.specs.Lists.{has}
use Rattle.paging.specs.Policies.{Policy, history_after}

unfoldable pub fresh : ℕ → ℕ → List ℕ
fresh zero n = []
fresh (suc c) n = n ∷ fresh c (suc n)

unfoldable pub first_missing : List ℕ → List ℕ → ℕ
first_missing [] cache = 0
first_missing (page ∷ pages) cache = cond (has cache page) (first_missing pages cache) page

unfoldable pub once_each : List ℕ → List ℕ → List ℕ
once_each seen [] = seen
once_each seen (page ∷ pages) = once_each (cond (has seen page) seen (seen ++ page ∷ [])) pages

unfoldable pub below : ℕ → List ℕ → List ℕ
below n [] = []
below n (page ∷ pages) = cond (nat_lt page n) (page ∷ below n pages) (below n pages)

pub record Round : Type 0 where
  pub list : List ℕ
  pub next : ℕ
  pub history : List ℕ

unfoldable pub opened : ℕ → Round
opened h = record { list = fresh h 1; next = suc h; history = history_after [] (fresh h 1) }

unfoldable pub new_pages : ℕ → ℕ → Round → List ℕ
new_pages k h r = fresh (suc (k - h)) r.next

unfoldable pub pages_of : ℕ → ℕ → Round → List ℕ
pages_of k h r = r.list ++ new_pages k h r

unfoldable pub picks : Policy → List ℕ → List ℕ → ℕ → List ℕ
picks policy pages history zero = []
picks policy pages history (suc c) =
    first_missing pages (policy history) ∷ picks policy pages (first_missing pages (policy history) ∷ history) c

unfoldable pub second_part : ℕ → ℕ → Policy → Round → List ℕ
second_part k h policy r = picks policy (pages_of k h r) (history_after r.history (new_pages k h r)) (h - 1)

unfoldable pub requests : ℕ → ℕ → Policy → Round → List ℕ
requests k h policy r = new_pages k h r ++ second_part k h policy r

unfoldable pub last_new : ℕ → ℕ → Round → ℕ
last_new k h r = r.next + (k - h)

unfoldable pub next_list : ℕ → ℕ → Policy → Round → List ℕ
next_list k h policy r = take h (once_each [] (second_part k h policy r ++ last_new k h r ∷ pages_of k h r))

unfoldable pub next_round : ℕ → ℕ → Policy → Round → Round
next_round k h policy r =
    record {
      list = next_list k h policy r;
      next = suc (last_new k h r);
      history = history_after r.history (requests k h policy r);
    }

unfoldable pub rounds : ℕ → ℕ → Policy → ℕ → Round → Round
rounds k h policy zero r = r
rounds k h policy (suc m) r = rounds k h policy m (next_round k h policy r)

unfoldable pub trace_from : ℕ → ℕ → Policy → ℕ → Round → List ℕ
trace_from k h policy zero r = []
trace_from k h policy (suc m) r = requests k h policy r ++ trace_from k h policy m (next_round k h policy r)

unfoldable pub held : List ℕ → ℕ → List ℕ
held pages n = n ∷ below n pages

unfoldable pub served : List ℕ → List ℕ → List (List ℕ)
served pages [] = []
served pages (n ∷ news) = held pages n ∷ served pages news

unfoldable pub schedule_from : ℕ → ℕ → Policy → ℕ → Round → List (List ℕ)
schedule_from k h policy zero r = []
schedule_from k h policy (suc m) r =
    served (next_list k h policy r) (new_pages k h r)
    ++ (replicate (h - 1) (held (next_list k h policy r) (last_new k h r)) ++ schedule_from k h policy m (next_round k h policy r))

unfoldable pub adversary : ℕ → ℕ → Policy → ℕ → List ℕ
adversary k h policy m = fresh h 1 ++ trace_from k h policy m (opened h)

unfoldable pub beside : ℕ → ℕ → Policy → ℕ → List (List ℕ)
beside k h policy m = served (fresh h 1) (fresh h 1) ++ schedule_from k h policy m (opened h)
