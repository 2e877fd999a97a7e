-- What is printed of a run that was stopped, as bytes. Assumes nothing: this is a definition.
--     stopped_bytes s     `refused 7 at 2, after 30 requests`
use Rattle.std.specs.Prelude.{ℕ, List, ◌++◌, codes, decimal}
use Rattle.lru_cache.specs.Refusals.{refusal_bytes}
use Rattle.runs.specs.declared.stopped.Stopped.{Stopped}

abbrev pub stopped_bytes : Stopped → List ℕ
stopped_bytes s = refusal_bytes s.refusal ++ (codes ", after " ++ (decimal s.after ++ codes " requests"))
