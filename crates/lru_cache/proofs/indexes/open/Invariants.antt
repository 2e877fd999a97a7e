use Rattle.std.proofs.Common.{◌≡◌, ◌+◌, ◌*◌, ◌++◌, drop}
use Rattle.std.specs.Slice.Iter.{iter_rest}
use Rattle.std.specs.Iterator.Adapters.{rev_source}
use Rattle.recency.specs.Row as recent
use Rattle.recency.specs.Sound.{Sound}
use Rattle.lru_cache.specs.Rows.{cached}
use Rattle.lru_cache.proofs.indexes.open.Given as goal

-- the pages in the index stand behind those that are left
abbrev pub invariant-loop-page : goal.invariant-loop-page
invariant-loop-page l =
    Sound l.k l.index × (iter_rest (rev_source l.page-iterator) ++ recent.pages l.index ≡ cached l.cache)
    × (drop (9 * l.k + 5) l.index ≡ drop (9 * l.k + 5) l.initial.index)
