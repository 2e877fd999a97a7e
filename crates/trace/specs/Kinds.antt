-- The policies by their numbers and by their names. Assumes nothing: these are definitions.
--     number_of kind          0 for LRU, 1 for first come, first gone, 2 for the least requested
--     Decodes number result   the result is the policy of that number, or says that there is none
--     unknown_bytes e         `no policy has number 3`
--     policy_of word          the policy that the word names: `lru`, `fifo` or `lfu`
use Rattle.std.specs.Prelude.{◌≡◌, ℕ, ◌<◌, cond, List, ◌++◌, Some, None, codes, decimal, Option, Result, MatchResult}
use Rattle.std.specs.Str.{bytes_eq}
use Rattle.trace.specs.declared.kinds.PolicyKind.{PolicyKind}
use Rattle.trace.specs.declared.kinds.PolicyKind.TheVariants.{Lru, Fifo, LeastRequested}
use Rattle.trace.specs.declared.kinds.UnknownPolicy.{UnknownPolicy}

abbrev pub number_of : PolicyKind → ℕ
number_of Lru = 0
number_of Fifo = 1
number_of LeastRequested = 2

abbrev pub Decodes : ℕ → Result PolicyKind UnknownPolicy → Type 0
Decodes number result = MatchResult result (λ kind. number_of kind ≡ number) (λ e. (e.0 ≡ number) × (2 < number))

abbrev pub unknown_bytes : UnknownPolicy → List ℕ
unknown_bytes e = codes "no policy has number " ++ decimal e.0

abbrev pub policy_of : List ℕ → Option PolicyKind
policy_of word =
    cond (bytes_eq (codes "lru") word) (Some Lru)
    (cond (bytes_eq (codes "fifo") word) (Some Fifo) (cond (bytes_eq (codes "lfu") word) (Some LeastRequested) None))
