-- The schedule's caches, as they are read at the end of a round. Assumes nothing: these are definitions.
--     ended c              a round, or the opening, was just ended
--     news_of c            how many new pages it had
--     new_at c i           the new page requested last when request i of it was served, from 0 on
--     cache_in c row i     the schedule's cache after that request
--     written out cache    out with the cache written into it as far as it goes
use Rattle.std.specs.Prelude.{ℕ, ◌+◌, ◌-◌, ◌*◌, Bool, cond, ◌&&◌, List, ◌++◌, length, take, drop, ◌==◌, nat_le, nat_lt}
use Rattle.paging.specs.Adversary.{held}
use Rattle.adversary.specs.declared.challenge.Challenge.{Challenge}
use Rattle.adversary.specs.Places.{listed_in}

abbrev pub ended : Challenge → List ℕ → Bool
ended c row = nat_le (3 * c.k + 1) (length row) && (c.listed == c.h && c.picks == 0)

abbrev pub news_of : Challenge → ℕ
news_of c = cond (c.next == c.h + 1) c.h (c.k + 1 - c.h)

abbrev pub new_at : Challenge → ℕ → ℕ
new_at c i = c.next - news_of c + cond (nat_lt i (news_of c)) i (news_of c - 1)

abbrev pub cache_in : Challenge → List ℕ → ℕ → List ℕ
cache_in c row i = held (listed_in c row) (new_at c i)

abbrev pub written : List ℕ → List ℕ → List ℕ
written out cache = take (length out) cache ++ drop (length cache) out
