use Rattle.std.proofs.Common.{◌≡◌, ◌+◌, ◌*◌, refl, rules}
use Rattle.contest.proofs.Going.{all_asked, turned_same}
use Rattle.contest.proofs.contests.Teller.run_told.Goals as goal

pub returns : goal.returns
returns g c =
    let s = c.args.settings in
    let k : c.from-k.result ≡ s.capacity = search rules in
    let h : c.from-h.result ≡ s.places = search rules in
    let rounds : c.from-rounds.result ≡ s.rounds = search rules in
    let asked : c.from-h.result + c.from-rounds.result * c.from-k.result ≡ s.places + s.rounds * s.capacity = rw (k, h, rounds) refl in
    record {
      ended = record {
        led = all_asked _ _ _ _ _ _ _ _ _ c.in_ok-begun.ensures.cases (turned_same asked c.in_ok-ended.ensures.turned);
        counted = rw (← k, ← h, ← rounds) c.count.ensures.value;
      };
    }
