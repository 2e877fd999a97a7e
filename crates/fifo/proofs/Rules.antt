-- First come, first gone, request by request is its rule, and so keeps a cache.
use Rattle.std.proofs.Common.{◌≡◌, ℕ, zero, suc, ◌+◌, ◌-◌, ◌<◌, ◌≤◌, min, true, false, List, [], ◌∷◌, ◌++◌, length, take, refl, ap, ◌∙◌, arith}
use Rattle.std.specs.List.{remove}
use Rattle.paging.specs.Lists.{has}
use Rattle.paging.specs.Rules.{fifo_policy}
use Rattle.paging.proofs.Fewest.{rules_proper}
use Rattle.policies.specs.Onward.{onward, Does}
use Rattle.policies.proofs.Rules.{proper_like, goes_on}
use Rattle.fifo.specs.Queue.{fifo}

fifo_same : (k : ℕ) (history : List ℕ) → onward (fifo k) [] history ≡ fifo_policy k history
unfolding onward fifo fifo_policy
fifo_same k [] = refl
fifo_same k (page ∷ history) = ap (λ (cache : List ℕ). fifo k cache page) (fifo_same k history)

pub fifo_does : (k : ℕ) (cache : List ℕ) → 0 < k → cache ≡ [] → Does k (fifo_policy k) (onward (fifo k) cache)
fifo_does k cache pos empty =
    rw empty (record { same = fifo_same k; proper = proper_like k (fifo_policy k) (onward (fifo k) []) (fifo_same k) (rules_proper k pos).fifo_proper })

take_first : (k page : ℕ) (cache : List ℕ) → 0 < k → page ∷ take (k - 1) cache ≡ take k (page ∷ cache)
take_first zero page cache some = absurd (omega arith)
take_first (suc k) page cache some = let one : suc k - 1 ≡ k = omega arith in rw one refl

-- the front of a row after a number came to it in the place of the last of its first n, or behind them where they are k or fewer
front : (row : List ℕ) (k n last x : ℕ) → last ≡ min n k → last < length row → take (suc last) (x ∷ remove row last) ≡ x ∷ take k (take n row)
front [] k n last x is lt = absurd (omega arith)
front (y ∷ ys) zero n (suc last) x is lt = absurd (omega arith)
front (y ∷ ys) (suc k) zero (suc last) x is lt = absurd (omega arith)
front (y ∷ ys) zero n zero x is lt = refl
front (y ∷ ys) (suc k) zero zero x is lt = refl
front (y ∷ ys) (suc k) (suc n) zero x is lt = absurd (omega arith)
front (y ∷ ys) (suc k) (suc n) (suc last) x is lt = ap (λ (zs : List ℕ). x ∷ zs) (front ys k n last y (omega arith) (omega arith))

module _ (k page : ℕ) (cache : List ℕ) where
  stays_is : has cache page ≡ true → cache ≡ fifo k cache page
  unfolding fifo
  stays_is there = rw there refl

  comes_is : has cache page ≡ false → 0 < k → page ∷ take (k - 1) cache ≡ fifo k cache page
  unfolding fifo
  comes_is absent some = rw absent (take_first k page cache some)

  -- the page stands there already
  pub stays : has cache page ≡ true → (further : List ℕ) → onward (fifo k) cache further ≡ onward (fifo k) cache (further ++ page ∷ [])
  stays there = goes_on (fifo k) cache cache page (stays_is there)

-- it comes to the front, and no more than k - 1 stay behind it
pub comes :
    (k page n last : ℕ) (row after : List ℕ) → has (take n row) page ≡ false → 0 < k → k ≤ length row → last ≡ min n (k - 1) → after ≡ page ∷ remove row last →
    (further : List ℕ) → onward (fifo k) (take (last + 1) after) further ≡ onward (fifo k) (take n row) (further ++ page ∷ [])
comes k page n last row after absent some long at is =
    let one : last + 1 ≡ suc last = omega arith in
    goes_on (fifo k) (take n row) (take (last + 1) after) page
    (rw (is, one) (front row (k - 1) n last page at (omega arith) ∙ comes_is k page (take n row) absent some))
