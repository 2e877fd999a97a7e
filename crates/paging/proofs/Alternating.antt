-- Traces on which rules fail: a few pages, each twice, and then two pages in turn. A schedule with two places fetches each page once.
--     doubled c n            n, n, n + 1, n + 1 .. (c pages)
--     in_turn m a b          a, b, a, b .. (m requests)
--     alone c n              a schedule for doubled c n: only the page requested
--     pair m a b             a schedule for in_turn m a b: both pages, once both are requested
use Rattle.std.proofs.Common.{◌≡◌, ℕ, zero, suc, ◌+◌, ◌<◌, ◌≤◌, true, false, ◌||◌, eqb, ◌≢◌, List, [], ◌∷◌, ◌++◌, length, replicate, refl, arith}
use Rattle.std.proofs.lemmas.List.{append-nil}
use Rattle.std.proofs.lemmas.Bool.Decides.{nat_tests}
use Rattle.paging.specs.Lists.{has, distinct}
use Rattle.paging.specs.Policies.{Policy, history_after, policy_fetches}
use Rattle.paging.specs.Schedules.{only_adds, feasible, schedule_fetches}
use Rattle.paging.proofs.Beside.{served_held}
use Rattle.paging.proofs.Lists.{Within}

unfoldable pub doubled : ℕ → ℕ → List ℕ
doubled zero n = []
doubled (suc c) n = n ∷ n ∷ doubled c (suc n)

unfoldable pub in_turn : ℕ → ℕ → ℕ → List ℕ
in_turn zero a b = []
in_turn (suc m) a b = a ∷ in_turn m b a

unfoldable pub alone : ℕ → ℕ → List (List ℕ)
alone zero n = []
alone (suc c) n = (n ∷ []) ∷ (n ∷ []) ∷ alone c (suc n)

unfoldable pub pair : ℕ → ℕ → ℕ → List (List ℕ)
pair zero a b = []
pair (suc m) a b = (a ∷ []) ∷ replicate m (b ∷ a ∷ [])

-- the schedule

length_in_turn : (m a b : ℕ) → length (in_turn m a b) ≡ m
unfolding in_turn
length_in_turn zero a b = refl
length_in_turn (suc m) a b = omega (arith, length_in_turn m b a)

in_turn_within : (m a b x : ℕ) → has (in_turn m a b) x ≡ true → (eqb a x || eqb b x) ≡ true
unfolding in_turn has
in_turn_within zero a b x here = grind (arith, nat_tests)
in_turn_within (suc m) a b x here = let i = in_turn_within m b a x in grind (arith, nat_tests)

module _ (k a b : ℕ) (two : 2 ≤ k) (apart : a ≢ b) where
  pair_apart : distinct (b ∷ a ∷ []) ≡ true
  unfolding distinct has
  pair_apart = grind (arith, nat_tests)

  pair_rest :
      (m : ℕ) →
      (feasible k (a ∷ []) (in_turn m b a) (replicate m (b ∷ a ∷ [])) ≡ true)
      × (schedule_fetches (a ∷ []) (in_turn m b a) (replicate m (b ∷ a ∷ [])) ≤ 1)
  unfolding in_turn feasible schedule_fetches has only_adds
  pair_rest zero = (refl, omega arith)
  pair_rest (suc m) =
      let cache = b ∷ a ∷ [] in
      let within : Within (in_turn m a b) cache = λ x here. let w = in_turn_within m a b x here in grind (arith, nat_tests) in
      let i = served_held k m cache (in_turn m a b) [] [] two pair_apart (length_in_turn m a b) within refl in
      let j = simp append-nil at i in
      let d = pair_apart in
      grind (arith, nat_tests)

  pair_served :
      (m : ℕ) (before : List ℕ) →
      (feasible k before (in_turn m a b) (pair m a b) ≡ true) × (schedule_fetches before (in_turn m a b) (pair m a b) ≤ 2)
  unfolding in_turn pair feasible schedule_fetches has only_adds distinct
  pair_served zero before = (refl, omega arith)
  pair_served (suc m) before = let i = pair_rest m in grind (arith, nat_tests)

-- whatever cache comes out of the pages requested twice, the rest is served from it
doubled_served :
    (k c n : ℕ) (trace : List ℕ) (schedule : List (List ℕ)) (most : ℕ) → 0 < k →
    ((before : List ℕ) → (feasible k before trace schedule ≡ true) × (schedule_fetches before trace schedule ≤ most)) →
    (before : List ℕ) →
    (feasible k before (doubled c n ++ trace) (alone c n ++ schedule) ≡ true)
    × (schedule_fetches before (doubled c n ++ trace) (alone c n ++ schedule) ≤ c + most)
unfolding doubled alone feasible schedule_fetches has only_adds distinct
doubled_served k zero n trace schedule most pos rest before = let r = rest before in (r.0, omega arith)
doubled_served k (suc c) n trace schedule most pos rest before =
    let i = doubled_served k c (suc n) trace schedule most pos rest (n ∷ []) in
    grind (arith, nat_tests)

-- c pages twice, and two others in turn
pub served_in_turn :
    (k c m a b : ℕ) → 2 ≤ k → a ≢ b → c < k →
    (feasible k [] (doubled c 1 ++ in_turn m a b) (alone c 1 ++ pair m a b) ≡ true)
    × (schedule_fetches [] (doubled c 1 ++ in_turn m a b) (alone c 1 ++ pair m a b) ≤ suc k)
served_in_turn k c m a b two apart few =
    let i = doubled_served k c 1 (in_turn m a b) (pair m a b) 2 (omega arith) (pair_served k a b two apart m) [] in
    (i.0, omega arith)

-- a policy that lacks each page when its turn comes
pub fetches_in_turn :
    (policy : Policy) (Lacks : ℕ → ℕ → List ℕ → Type 0) →
    ((a b : ℕ) (history : List ℕ) → Lacks a b history → (has (policy history) a ≡ false) × Lacks b a (a ∷ history)) →
    (m a b : ℕ) (history : List ℕ) → Lacks a b history →
    m + policy_fetches policy history ≤ policy_fetches policy (history_after history (in_turn m a b))
unfolding in_turn history_after policy_fetches
fetches_in_turn policy Lacks goes zero a b history l = omega arith
fetches_in_turn policy Lacks goes (suc m) a b history l =
    let g = goes a b history l in
    let i = fetches_in_turn policy Lacks goes m b a (a ∷ history) g.1 in
    grind (arith, nat_tests)
