-- No schedule fetches fewer than one that evicts the furthest, by counting: it always holds most of the pages that come soon, but for a credit.
use Rattle.std.proofs.Common.{◌≡◌, ℕ, suc, ◌+◌, ◌-◌, ◌≤◌, true, cond, List, [], ◌∷◌, arith}
use Rattle.std.proofs.lemmas.Bool.Decides.{nat_tests}
use Rattle.paging.specs.Belady.{furthest_first}
use Rattle.paging.specs.Lists.{has, distinct}
use Rattle.paging.specs.Schedules.{feasible, schedule_fetches}
use Rattle.paging.proofs.Schedules.{Served, served, only_adds_total}
use Rattle.paging.proofs.Soon.{soon, other, total_other, soon_request, soon_others, soon_none, Holds, holds}
use Rattle.paging.proofs.Weights.{total}

-- mine holds as many of the pages that come soon as theirs does, but for so many
abbrev pub Ahead : List ℕ → List ℕ → List ℕ → ℕ → Type 0
Ahead coming theirs mine credit = (t : ℕ) → total (soon t coming) theirs ≤ total (soon t coming) mine + credit

module _
    (p : ℕ) (coming theirs mine : List ℕ) (credit : ℕ) (distinct-theirs : distinct theirs ≡ true) (distinct-mine : distinct mine ≡ true)
    (ahead : Ahead (p ∷ coming) theirs mine credit)
  where
    -- where only theirs has the page, there is a credit to pay for the fetch
    pub covered : cond (has mine p) 0 1 ≤ credit + cond (has theirs p) 0 1
    covered =
        let a = soon_request 0 p coming theirs distinct-theirs in
        let b = soon_request 0 p coming mine distinct-mine in
        let n = soon_none p coming mine in
        let c = ahead 1 in
        grind (arith, nat_tests)

    pub ahead_after :
        (h : ℕ) (next ours : List ℕ) → Served h theirs p next → Served h mine p ours → ((t : ℕ) → Holds h p coming mine t ours) →
        Ahead coming next ours (credit + cond (has theirs p) 0 1 - cond (has mine p) 0 1)
    unfolding other
    ahead_after h next ours s m keeps t =
        let c = ahead (suc t) in
        let a = soon_request t p coming theirs distinct-theirs in
        let b = soon_request t p coming mine distinct-mine in
        let k = keeps t in
        let few = soon_others t p coming next in
        let i = total_other (soon t coming) p next in
        let j = total_other (soon t coming) p ours in
        let less = only_adds_total (other p (soon t coming)) next p theirs in
        let z = covered in
        grind (arith, nat_tests)

pub furthest_least :
    (h : ℕ) (mine theirs trace : List ℕ) (schedule another : List (List ℕ)) (credit : ℕ) → distinct mine ≡ true → distinct theirs ≡ true →
    feasible h mine trace schedule ≡ true → furthest_first h mine trace schedule ≡ true → feasible h theirs trace another ≡ true →
    Ahead trace theirs mine credit → schedule_fetches mine trace schedule ≤ schedule_fetches theirs trace another + credit
unfolding feasible furthest_first schedule_fetches
furthest_least h mine theirs [] schedule another credit u v ok rule fits ahead = omega arith
furthest_least h mine theirs (p ∷ trace) [] another credit u v ok rule fits ahead = grind (arith, nat_tests)
furthest_least h mine theirs (p ∷ trace) (ours ∷ schedule) [] credit u v ok rule fits ahead = grind (arith, nat_tests)
furthest_least h mine theirs (p ∷ trace) (ours ∷ schedule) (next ∷ another) credit u v ok rule fits ahead =
    let m = served h mine p trace ours schedule ok in
    let s = served h theirs p trace next another fits in
    let keeps = λ (t : ℕ). holds h p trace mine ours u t (grind (arith, nat_tests)) in
    let c = covered p trace theirs mine credit v u ahead in
    let further = ahead_after p trace theirs mine credit v u ahead h next ours s.0 m.0 keeps in
    let i = furthest_least h ours next trace schedule another _ m.0.once s.0.once m.1 (grind (arith, nat_tests)) s.1 further in
    grind (arith, nat_tests)
