-- One pass over the trace: what has been counted after the first i requests, and what one request adds.
use Rattle.std.proofs.Common.{◌≡◌, ℕ, ◌+◌, ◌<◌, ◌≤◌, false, List, length, get_or, take, drop, set, sum, refl, ◌∙◌, arith}
use Rattle.std.proofs.lemmas.List.{length-set, get_or-set_same, take_all}
use Rattle.std.proofs.lemmas.Bool.Decides.{nat_tests}
use Rattle.paging.specs.Lists.{has}
use Rattle.paging.specs.Lru.{lru, lru_fetches}
use Rattle.paging.proofs.Distance.{stack_steps, fetches_le}
use Rattle.paging.proofs.Tallies.{Tallied, Steps, tallied_all, tallied_found, tallied_absent, counter_le}
use Rattle.curve.specs.Counts.{Tally, TallyOf}
use Rattle.curve.specs.Stacked.{Found}

pub pass_all : (hits trace stack : List ℕ) (i : ℕ) → Tallied lru_fetches hits i trace stack → i ≡ length trace → Tally trace hits
unfolding lru_fetches
pass_all hits trace stack i so_far end c low high =
    tallied_all lru_fetches hits i trace stack so_far c (omega arith) high (omega arith) refl ∙ end

module _
    (hits trace stack : List ℕ) (i page : ℕ) (so_far : Tallied lru_fetches hits i trace stack) (lt : i < length trace)
    (here : get_or trace i 0 ≡ page) (m : ℕ) (all : m ≡ length hits) (next : List ℕ) (moved : next ≡ lru m stack page)
  where
    steps : Steps lru_fetches (length hits) stack page (drop (i + 1) trace) next
    steps = rw (moved, all) (stack_steps (length hits) stack page (drop (i + 1) trace))

    pub pass_absent : has stack page ≡ false → Tallied lru_fetches hits (i + 1) trace next
    pass_absent absent =
        tallied_absent lru_fetches hits i trace stack so_far next page lt here steps (λ there. grind (arith, nat_tests))

    module _ (d : ℕ) (found : Found m page stack d) where
      pub pass_found : Tallied lru_fetches (set hits d (get_or hits d 0 + 1)) (i + 1) trace next
      pass_found = tallied_found lru_fetches hits i trace stack so_far next page lt here steps d found.at found.there (omega arith)

      -- the counter fits where the trace's length does
      pub pass_fits : get_or hits d 0 + 1 ≤ length trace
      pass_fits =
          let v = get_or hits d 0 + 1 in
          let len = length-set hits d v in
          let le = counter_le lru_fetches (set hits d v) (i + 1) trace next pass_found d (omega arith) (omega arith) fetches_le in
          omega (arith, get_or-set_same hits d v 0 (omega arith))

-- the hits at all places are requests, whatever it is that fetches
pub tally_of_enough : (fetches : ℕ → List ℕ → List ℕ → ℕ) (trace hits : List ℕ) → 1 ≤ length hits → TallyOf fetches trace hits → sum hits ≤ length trace
tally_of_enough fetches trace hits low tally =
    let all : sum (take (length hits) hits) ≡ sum hits = rw (take_all (length hits) hits (omega arith)) refl in
    omega (arith, tally (length hits) low (omega arith))

pub tally_enough : (trace hits : List ℕ) → 1 ≤ length hits → Tally trace hits → sum hits ≤ length trace
tally_enough = tally_of_enough lru_fetches
