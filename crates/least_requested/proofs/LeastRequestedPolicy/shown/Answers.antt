use Rattle.std.proofs.Common.{take, sym, ap, ◌∙◌, arith}
use Rattle.policies.specs.Onward.{onward}
use Rattle.least_requested.proofs.Pairs.{pages_paired, level_front}
use Rattle.least_requested.proofs.LeastRequestedPolicy.shown.Goals as goal

pub returns : goal.returns
unfolding onward
returns c =
    let s = c.args.self.now in
    let level = level_front s.count s.pages.items s.counts.items (omega (arith, s.level, s.pages.ok.0, s.counts.ok.0)) in
    record { value = ap (take s.count) c.deref.ensures.value ∙ sym (pages_paired (take s.count s.pages.items) (take s.count s.counts.items) level) }
