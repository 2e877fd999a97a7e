-- What a summary says, read off the report for 1, 2 .. 4,096 places. Assumes nothing.
--     fewest_is          the fewest is one number: what Belady's rule fetches
--     different_is     with 4,096 places LRU fetches each page once
--     different_known    nobody fetches fewer than the different pages
--     halves             a row that is a report, in two
--     house_small        LRU fetches at most 4,096 ..
--     known_small        .. and so does who knows the trace
--     known_all          the same of all of them at once
--     tight_is           the tightest of the row is that of the trace
--     enough             some number of places is enough for LRU ..
--     needed_few         .. and the fewest are no more than different pages
--     never_refused      a trace that is taken for k places is taken for all
--     allowed            a product that is kept to is a quotient that is kept to
use Rattle.std.proofs.Common.{◌≡◌, ℕ, suc, ◌+◌, ◌-◌, ◌*◌, ◌/◌, ◌<◌, ◌≤◌, max, Bool, true, false, ltb, List, [], length, get_or, take, drop, Some, None, Option, IsSome, MatchOption, All, refl, ◌∙◌, mul_comm, le-div_iff_mul-le, arith}
use Rattle.std.specs.List.{AllWithin}
use Rattle.std.proofs.lemmas.Bool.Decides.{nat_tests}
use Rattle.std.proofs.lemmas.List.Elements.{All-from_get_or}
use Rattle.std.proofs.lemmas.List.{length-take, length-drop, get_or-take, get_or-drop}
use Rattle.paging.specs.Belady.{belady_fetches, Fewest}
use Rattle.paging.specs.Lru.{lru_fetches, lru_after}
use Rattle.paging.specs.Stretches.{different}
use Rattle.paging.proofs.Belady.{fewest, belady_le}
use Rattle.paging.proofs.Distance.{fetches_le}
use Rattle.paging.proofs.Room.{few_pages}
use Rattle.paging.proofs.Stretches.{compulsory, cold_fetches, missing_none}
use Rattle.lru_cache.specs.Rows.{first_wide}
use Rattle.lru_cache.specs.declared.refusals.Refusal.{Refusal}
use Rattle.curve.specs.Refused.{refusal}
use Rattle.curve.proofs.Reasons.{refused_wide, refused_none}
use Rattle.belady.specs.Reported.{Reported}
use Rattle.summary.specs.Counted.{Tightest, Needed}
use Rattle.summary.specs.Reports.{Reports}

pub fewest_is : (c : ℕ) (trace : List ℕ) (n : ℕ) → 1 ≤ c → Fewest c trace n → n ≡ belady_fetches c [] trace
fewest_is c trace n low f =
    let b = fewest c trace low in
    let one = f.least b.schedule b.fits in
    let other = b.least f.schedule f.fits in
    omega (arith, one, other, f.fetches, b.fetches)

pub few_fetched : (c : ℕ) (trace : List ℕ) → different trace ≤ c → lru_fetches c [] trace ≤ different trace
unfolding lru_after
few_fetched c trace few = few_pages c [] trace few

pub different_le : (trace : List ℕ) → different trace ≤ length trace
different_le trace = omega (arith, compulsory 1 trace, fetches_le 1 [] trace)

pub different_known : (c : ℕ) (trace : List ℕ) (n : ℕ) → Fewest c trace n → different trace ≤ n
different_known c trace n f =
    let cold = rw (missing_none trace) at (cold_fetches c [] trace f.schedule f.fits) in
    omega (arith, cold, f.fetches)

pub different_is : (trace : List ℕ) → length trace ≤ 4096 → lru_fetches 4096 [] trace ≡ different trace
different_is trace short =
    let most = few_fetched 4096 trace (omega (arith, different_le trace)) in
    omega (arith, most, compulsory 4096 trace)

-- the two halves of a row
pub halves : (trace was row : List ℕ) → length trace ≤ 4096 → length row ≡ 8192 → Reported trace 4096 was row → Reports trace (take 4096 row) (drop 4096 row)
halves trace was row short long r =
    let front : (c : ℕ) → 1 ≤ c → c ≤ 4096 → get_or (take 4096 row) (c - 1) 0 ≡ get_or row (c - 1) 0 = λ c low high. get_or-take 4096 row (c - 1) 0 (omega arith) in
    let back : (c : ℕ) → 1 ≤ c → get_or (drop 4096 row) (c - 1) 0 ≡ get_or row (4096 + c - 1) 0 =
    λ c low. (let at : 4096 + (c - 1) ≡ 4096 + c - 1 = omega arith in rw (← at) (get_or-drop 4096 row (c - 1) 0)) in
    record {
      short = short;
      house_long = omega (arith, length-take 4096 row);
      known_long = omega (arith, length-drop 4096 row);
      fetches = λ c low high. front c low high ∙ r.fetches c low high;
      fewest = λ c low high. back c low ∙ fewest_is c trace _ low (r.fewest c low high);
      bound = λ k h low le high.
          let at = front k (omega arith) high in
          let against = back h low in
          let more : k + 1 - h ≡ suc k - h = omega arith in
          rw (at, against, more) (r.bound k h low le high);
    }

module _ (trace house known : List ℕ) (r : Reports trace house known) where
  pub house_small : (c : ℕ) → 1 ≤ c → c ≤ 4096 → get_or house (c - 1) 0 ≤ 4096
  house_small c low high = omega (arith, r.fetches c low high, fetches_le c [] trace, r.short)

  pub known_small : (c : ℕ) → 1 ≤ c → c ≤ 4096 → get_or known (c - 1) 0 ≤ 4096
  known_small c low high = omega (arith, r.fewest c low high, belady_le c [] trace, r.short)

  pub known_all : All (λ n. n ≤ 4096) known
  known_all =
      All-from_get_or (λ n. n ≤ 4096) known 0
      (λ i within.
      let at : i + 1 - 1 ≡ i = omega arith in
      let small = known_small (i + 1) (omega arith) (omega (arith, r.known_long)) in
      rw at at small)

  pub tight_is :
      (k h : ℕ) → k ≤ 4096 → Tightest (λ c. get_or (take k known) (c - 1) 0) (length (take k known)) h → Tightest (λ c. belady_fetches c [] trace) k h
  tight_is k h high t =
      let long : length (take k known) ≡ k = omega (arith, length-take k known, r.known_long) in
      let to_k = rw long at t in
      let at : (c : ℕ) → 1 ≤ c → c ≤ k → get_or (take k known) (c - 1) 0 ≡ belady_fetches c [] trace =
      λ c low most. get_or-take k known (c - 1) 0 (omega arith) ∙ r.fewest c low (omega arith) in
      let here = at h to_k.low to_k.high in
      record {
        low = to_k.low;
        high = to_k.high;
        least = λ j from to. rw (here, at j from to) at (to_k.least j from to);
        largest = λ j above to. rw (here, at j (omega arith) to) at (to_k.largest j above to);
      }

  -- with 4,096 places LRU fetches few enough
  pub enough : (n : ℕ) (r : Option ℕ) (P : ℕ → Type 0) → different trace ≤ n → MatchOption r (AllWithin (λ x. n < x) house 0 (length house)) P → IsSome r
  enough n (Some i) P few found = refl
  enough n None P few none =
      let last : get_or house 4095 0 ≤ n = omega (arith, r.fetches 4096 (omega arith) (omega arith), different_is trace r.short) in
      let more = none 4095 0 (omega arith) (omega (arith, r.house_long)) in
      absurd (omega arith)

module _ (trace : List ℕ) (k n c : ℕ) (f : Fewest k trace n) (need : Needed (λ j. lru_fetches j [] trace) n c) where
  few_places : (b : Bool) → ltb (max 1 (different trace)) c ≡ b → c ≤ max 1 (different trace)
  few_places true is =
      let less : max 1 (different trace) < c = grind (arith, nat_tests) in
      let more = need.least (max 1 (different trace)) (omega arith) less in
      let few = few_fetched (max 1 (different trace)) trace (omega arith) in
      let z : ⊥ = omega (arith, more, few, different_known k trace n f) in
      absurd z
  few_places false is = grind (arith, nat_tests)

  pub needed_few : c ≤ max 1 (different trace)
  needed_few = few_places (ltb (max 1 (different trace)) c) refl

none_wide : (trace : List ℕ) (m len : ℕ) (o : Option Refusal) → first_wide trace ≡ o → refusal trace m len ≡ None → first_wide trace ≡ None
none_wide trace m len None is none = is
none_wide trace m len (Some e) is none =
    let some = refused_wide trace m len e is in
    let z : ◌≡◌ {A = ℕ} 0 1 = cc in absurd (omega arith)

pub never_refused :
    (trace : List ℕ) (k : ℕ) (e : Refusal) → length trace ≤ 4096 → refusal trace k 8192 ≡ None → Some e ≡ refusal trace 4096 8192 → ⊥
never_refused trace k e short none some =
    let narrow = none_wide trace k 8192 (first_wide trace) refl none in
    let good = refused_none trace 4096 8192 narrow short (omega arith) (omega arith) (omega arith) in
    let z : ◌≡◌ {A = ℕ} 0 1 = cc in
    omega arith

pub allowed : (d house k against : ℕ) → 0 < d → d * house ≤ k * against → house ≤ k * against / d
allowed d house k against pos le = (le-div_iff_mul-le {k = d} {x = house} {y = k * against} pos).1 (rw (mul_comm house d) le)
