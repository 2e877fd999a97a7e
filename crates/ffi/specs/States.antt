-- Where a challenge stands, as eight numbers. Assumes nothing: these are definitions.
--     numbers_of c         k and h, the next new page, how many pages of the round are listed, how many are noted as picked, how many picks
--                          there were, how many pages were shown last, and the page requested last
--     of_a_challenge ..    seven such numbers are those of a challenge; the last may be any
--     stands state m       the first eight of a row are, and an adversary's row of m numbers is long enough
--     Stands state m c     .. those of c
use Rattle.std.specs.Prelude.{◌≡◌, ℕ, ◌+◌, ◌*◌, ◌≤◌, Bool, true, not, ◌&&◌, ◌||◌, List, [], ◌∷◌, length, take, ◌==◌, nat_le, nat_lt, slice_index}
use Rattle.adversary.specs.declared.challenge.Challenge.{Challenge}

abbrev pub numbers_of : Challenge → List ℕ
numbers_of c = c.k ∷ c.h ∷ c.next ∷ c.listed ∷ c.noted ∷ c.picks ∷ c.shown ∷ c.last ∷ []

abbrev pub of_a_challenge : ℕ → ℕ → ℕ → ℕ → ℕ → ℕ → ℕ → Bool
of_a_challenge k h next listed noted picks shown =
    nat_le 1 h && (nat_le h k && (nat_le k 4096
    && (nat_le listed (k + 1) && (nat_lt listed next && (nat_le next 4294967296
    && (nat_le noted picks && (nat_lt picks h
    && (nat_le shown k && (not (next == 1) || shown == 0)))))))))

abbrev pub stands : List ℕ → ℕ → Bool
stands state m =
    nat_le 8 (length state)
    && (of_a_challenge (slice_index state 0) (slice_index state 1) (slice_index state 2) (slice_index state 3) (slice_index state 4) (slice_index state 5) (slice_index state 6) && nat_le (3 * slice_index state 0 + 1) m)

pub record Stands (state : List ℕ) (m : ℕ) (c : Challenge) : Type 0 where
  pub is : stands state m ≡ true
  pub eight : 8 ≤ length state
  pub room : 3 * c.k + 1 ≤ m
  pub numbers : take 8 state ≡ numbers_of c
