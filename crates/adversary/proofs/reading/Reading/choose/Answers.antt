use Rattle.std.proofs.Common.{ℕ, take, Option, ap, ◌∙◌, arith}
use Rattle.std.specs.Option.{unwrap_or}
use Rattle.recency.specs.Row as recent
use Rattle.adversary.specs.Places.{position_in}
use Rattle.adversary.proofs.Chosen.{aim_pick, aim_new, aim_out}
use Rattle.adversary.proofs.Lengths.{length_listed}
use Rattle.adversary.proofs.Marked.{missing_found}
use Rattle.adversary.proofs.reading.Reading.choose.Goals as goal

pub returns-then-c : goal.returns-then-c
returns-then-c c =
    let self = c.args.self.challenge in
    let row = c.args.self.row.now in
    let cache = recent.pages c.args.seen.now in
    let l = length_listed self row c.args.self.long in
    let a = aim_pick self.k (position_in self row) cache (omega arith) in
    let found = missing_found (take self.listed row) cache in
    let is = c.unwrap_or.ensures ∙ ap (λ (o : Option ℕ). unwrap_or o 0) c.first_unmarked-missing.ensures.value in
    record { cases = record { none = a.0; page_is = is ∙ found ∙ a.1; left = λ le. absurd (omega arith) } }

pub returns-then-c-eq-PAGE_LIMIT : goal.returns-then-c-eq-PAGE_LIMIT
returns-then-c-eq-PAGE_LIMIT c =
    let self = c.args.self.challenge in
    let row = c.args.self.row.now in
    let l = length_listed self row c.args.self.long in
    record { cases = aim_out self.k (position_in self row) (omega arith) (omega arith) }

pub returns : goal.returns
returns c =
    let self = c.args.self.challenge in
    let row = c.args.self.row.now in
    let l = length_listed self row c.args.self.long in
    let small = self.left in
    let a = aim_new self.k (position_in self row) (recent.pages c.args.seen.now) (omega arith) (omega arith) in
    record { cases = record { none = a.0; page_is = a.1; left = λ le. omega arith } }
