use Rattle.std.proofs.Common.{◌≡◌, ℕ, ◌+◌, ◌<◌, min, length, get_or, take, sym, ap, ◌∙◌, arith}
use Rattle.std.proofs.lemmas.List.{length-take, get_or_default, get_or-take}
use Rattle.least_requested.specs.Counting.{most}
use Rattle.least_requested.proofs.Pairs.{level_front}
use Rattle.least_requested.proofs.Requests.{again, room, full}
use Rattle.least_requested.proofs.LeastRequested.place_for.Goals as goal

pub returns-in-Some-clause-after : goal.returns-in-Some-clause-after
returns-in-Some-clause-after c =
    let s = c.args.self.now in
    let at = c.in-Some.at in
    let found = rw c.deref.ensures.value at c.in-Some.ensures.value in
    let size = length-take s.count s.pages.items in
    let level = level_front s.count s.pages.items s.counts.items (omega (arith, s.level, s.pages.ok.0, s.counts.ok.0)) in
    let lt : at < s.count = omega (arith, found.2) in
    let within : at < length s.counts.items = omega (arith, s.level, s.long, s.few, s.counts.ok.0) in
    let read = c.index.ensures ∙ get_or_default s.counts.items at c.index.result.now 0 within ∙ sym (get_or-take s.count s.counts.items at 0 lt) in
    let count : c.saturating_add.result ≡ min (get_or (take s.count s.counts.items) at 0 + 1) most = c.saturating_add.ensures ∙ ap (λ (n : ℕ). min (n + 1) most) read in
    rw count (again _ _ s.capacity.places c.args.page level at found.0 found.1 found.2 s.once)

pub returns-then-self-clause-after : goal.returns-then-self-clause-after
returns-then-self-clause-after c =
    let s = c.args.self.now in
    let absent = rw c.deref.ensures.value at c.in_default.ensures.value in
    let size = length-take s.count s.pages.items in
    let level = level_front s.count s.pages.items s.counts.items (omega (arith, s.level, s.pages.ok.0, s.counts.ok.0)) in
    room _ _ s.capacity.places c.args.page level s.count absent (omega (arith, s.long, s.few, s.pages.ok.0)) (omega (arith, s.long, s.few, s.pages.ok.0))

pub returns-clause-after : goal.returns-clause-after
returns-clause-after c =
    let s = c.args.self.now in
    let absent = rw c.deref.ensures.value at c.in_default.ensures.value in
    let size = length-take s.count s.pages.items in
    let level = level_front s.count s.pages.items s.counts.items (omega (arith, s.level, s.pages.ok.0, s.counts.ok.0)) in
    let least = rw c.deref-2.ensures.value at c.last_place.ensures.value in
    full _ _ s.capacity.places c.args.page level _ absent least (omega (arith, s.long, s.few, s.pages.ok.0)) (omega (arith, s.long, s.few, s.pages.ok.0))
