-- Each of the three rules lacks one of two pages for ever, requested in turn.
use Rattle.std.proofs.Common.{◌≡◌, ℕ, zero, suc, ◌+◌, ◌-◌, ◌%◌, ◌<◌, ◌≤◌, false, ◌≢◌, List, [], ◌∷◌, ◌++◌, length, sym, refl, ap, arith}
use native.Mathlib.Nat.{add-mod_right}
use Rattle.std.proofs.lemmas.Bool.Decides.{nat_tests}
use Rattle.paging.specs.Failing.{
  last_requested_goes,
  direct_mapped,
  elsewhere,
  LastRequestedFails,
  DirectMappedFails,
}
use Rattle.paging.specs.Lists.{has, without}
use Rattle.paging.specs.Policies.{history_after, policy_fetches}
use Rattle.paging.proofs.Alternating.{doubled, in_turn, alone, pair, served_in_turn, fetches_in_turn}
use Rattle.paging.proofs.Fresh.{Under}
use Rattle.paging.proofs.Histories.{history_append}
use Rattle.paging.proofs.Lists.{without_absent}

-- a page stands at its number modulo k: two pages with the same place

record Placed (k a b : ℕ) (history : List ℕ) : Type 0 where
  same : a % k ≡ b % k
  apart : a ≢ b
  holds : direct_mapped k history ≡ b ∷ []

placed_goes :
    (k a b : ℕ) (history : List ℕ) → Placed k a b history →
    (has (direct_mapped k history) a ≡ false) × Placed k b a (a ∷ history)
unfolding direct_mapped elsewhere has
placed_goes k a b history p =
    let e = p.holds in
    let s = p.same in
    let d = p.apart in
    (rw e (grind (arith, nat_tests)), record { same = sym s; apart = λ z. d (sym z); holds = rw e (grind (arith, nat_tests)) })

pub direct_mapped_fails : DirectMappedFails
unfolding direct_mapped elsewhere doubled alone policy_fetches has history_after in_turn
direct_mapped_fails k n two =
    let s = served_in_turn k 0 (suc n) (k + k) k two (λ e. omega arith) (omega arith) in
    let first : Placed k k (k + k) ((k + k) ∷ []) = record { same = sym (add-mod_right k k); apart = λ e. omega arith; holds = refl } in
    let f = fetches_in_turn (direct_mapped k) (Placed k) (placed_goes k) n k (k + k) ((k + k) ∷ []) first in
    (in_turn (suc n) (k + k) k, pair (suc n) (k + k) k, omega arith, s.0, s.1)

-- the page requested last goes: two pages that go for each other

record Swapped (k a b : ℕ) (history : List ℕ) : Type 0 where
  rest : List ℕ
  holds : last_requested_goes k history ≡ b ∷ rest
  full : suc (length rest) ≡ k
  lacks_a : has rest a ≡ false
  lacks_b : has rest b ≡ false
  apart : a ≢ b

swapped_goes :
    (k a b : ℕ) (history : List ℕ) → Swapped k a b history →
    (has (last_requested_goes k history) a ≡ false) × Swapped k b a (a ∷ history)
unfolding last_requested_goes has
swapped_goes k a b history p =
    let e = p.holds in
    let d = p.apart in
    let f = p.full in
    let la = p.lacks_a in
    let w = without_absent a p.rest la in
    let miss : has (b ∷ p.rest) a ≡ false = grind (arith, nat_tests) in
    (rw e miss, record { rest = p.rest; holds = rw e (grind (arith, nat_tests)); full = f; lacks_a = p.lacks_b; lacks_b = la; apart = λ z. d (sym z) })

-- a new page twice, where there is room
twice_last :
    (k n : ℕ) (history : List ℕ) → has (last_requested_goes k history) n ≡ false → length (last_requested_goes k history) < k →
    last_requested_goes k (n ∷ n ∷ history) ≡ n ∷ last_requested_goes k history
unfolding last_requested_goes has without
twice_last k n history absent room = let w = without_absent n (last_requested_goes k history) absent in grind (arith, nat_tests)

opening_last :
    (k c n : ℕ) (history : List ℕ) → Under n (last_requested_goes k history) → length (last_requested_goes k history) + c ≤ k →
    Under (n + c) (last_requested_goes k (history_after history (doubled c n)))
    × (length (last_requested_goes k (history_after history (doubled c n))) ≡ length (last_requested_goes k history) + c)
unfolding history_after doubled has
opening_last k zero n history u room = (λ x here. omega (arith, u x here), omega arith)
opening_last k (suc c) n history u room =
    let v = u n in
    let t = twice_last k n history (grind (arith, nat_tests)) (omega arith) in
    let size = ap length t in
    let under : Under (suc n) (last_requested_goes k (n ∷ n ∷ history)) = rw t (λ x here. let w = u x in grind (arith, nat_tests)) in
    let i = opening_last k c (suc n) (n ∷ n ∷ history) under (omega arith) in
    (λ x here. omega (arith, i.0 x here), omega (arith, i.1))

swapped_first :
    (k : ℕ) (history : List ℕ) → Under k (last_requested_goes k history) → suc (length (last_requested_goes k history)) ≡ k →
    Swapped k (suc k) k (k ∷ history)
unfolding last_requested_goes
swapped_first k history u size =
    let cache = last_requested_goes k history in
    let v = u k in
    let w = u (suc k) in
    let absent : has cache k ≡ false = grind (arith, nat_tests) in
    let e = without_absent k cache absent in
    record {
      rest = cache;
      holds = grind (arith, nat_tests);
      full = size;
      lacks_a = grind (arith, nat_tests);
      lacks_b = absent;
      apart = λ z. omega arith;
    }

pub last_requested_fails : LastRequestedFails
unfolding last_requested_goes has in_turn history_after
last_requested_fails k n two =
    let c = k - 1 in
    let s = served_in_turn k c (suc n) k (suc k) two (λ e. omega arith) (omega arith) in
    let before = history_after [] (doubled c 1) in
    let o = opening_last k c 1 [] (λ x here. grind (arith, nat_tests)) (omega arith) in
    let first = swapped_first k before (λ x here. omega (arith, o.0 x here)) (omega (arith, o.1)) in
    let f = fetches_in_turn (last_requested_goes k) (Swapped k) (swapped_goes k) n (suc k) k (k ∷ before) first in
    (doubled c 1 ++ in_turn (suc n) k (suc k), alone c 1 ++ pair (suc n) k (suc k), rw history_append (omega arith), s.0, s.1)
