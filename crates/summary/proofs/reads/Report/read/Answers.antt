use Rattle.std.proofs.Common.{◌≡◌, ◌+◌, ◌-◌, ◌≤◌, sym, ◌∙◌, refl, arith}
use Rattle.std.proofs.lemmas.List.Elements.{All-take}
use Rattle.paging.specs.Belady.{Fewest}
use Rattle.paging.proofs.Belady.{fewest}
use Rattle.summary.proofs.Reading.{different_is, different_known, known_all, tight_is, needed_few, allowed}
use Rattle.summary.proofs.reads.Report.read.Goals as goal

pub tightest-tight-requires-clause-small : goal.tightest-tight-requires-clause-small
tightest-tight-requires-clause-small c = All-take (λ n. n ≤ 4096) c.args.capacity.places c.args.self.known.now (known_all _ _ _ c.args.self.reports)

pub needed-requires : goal.needed-requires
needed-requires c =
    let k = c.args.capacity.places in
    record { enough = different_known k _ _ (rw c.fewest-known.ensures.value (fewest k c.args.self.trace.now c.args.capacity.some)) }

pub returns : goal.returns
returns c =
    let r = c.args.self.reports in
    let trace = c.args.self.trace.now in
    let k = c.args.capacity.places in
    let h = c.tightest-tight.result in
    let tight = tight_is _ _ _ r k h c.args.capacity.most c.tightest-tight.ensures.value in
    let known : Fewest k trace c.fewest-known.result = rw c.fewest-known.ensures.value (fewest k trace c.args.capacity.some) in
    let against : Fewest h trace c.fewest-against.result = rw c.fewest-against.ensures.value (fewest h trace tight.low) in
    let house_is = r.fetches k c.args.capacity.some c.args.capacity.most ∙ sym c.fetched-house.ensures.value in
    let known_is = r.fewest k c.args.capacity.some c.args.capacity.most ∙ sym c.fewest-known.ensures.value in
    let against_is = r.fewest h tight.low (omega (arith, tight.high)) ∙ sym c.fewest-against.ensures.value in
    let promised = rw (house_is, against_is) at (r.bound k h tight.low tight.high c.args.capacity.most) in
    let once : k + 1 - k ≡ 1 = omega arith in
    let same = rw (once, house_is, known_is) at (r.bound k k c.args.capacity.some (omega arith) c.args.capacity.most) in
    record {
      says = record {
        requests_is = refl;
        different_is = c.fetched.ensures.value ∙ different_is trace r.short;
        places_is = refl;
        house_is = c.fetched-house.ensures.value;
        known_is = known;
        at_most = omega (arith, same);
        hundredths_is = c.rounded_up.ensures.value;
        tight_is = tight;
        against_is = against;
        promised = promised;
        allowed_is = refl;
        kept = allowed _ _ _ _ (omega (arith, tight.high)) promised;
        needed_is = c.needed.ensures.value;
        few = needed_few trace k _ _ known c.needed.ensures.value;
      };
    }
