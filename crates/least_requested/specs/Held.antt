-- What a cache holds. Assumes nothing: these are definitions.
--     held s                         the pages and how often each was requested, the one requested last first
use Rattle.std.specs.Prelude.{List, take}
use Rattle.paging.specs.Failing.{Entry}
use Rattle.least_requested.specs.Counting.{paired}
use Rattle.least_requested.specs.declared.LeastRequested.{LeastRequested}

abbrev pub held : LeastRequested → List Entry
held s = paired (take s.count s.pages.items) (take s.count s.counts.items)
