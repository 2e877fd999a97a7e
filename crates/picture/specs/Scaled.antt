-- Where numbers stand on the picture. Assumes nothing: these are definitions.
--     step n          how far apart the numbers on an axis are, so that there are at most five up to n, where n is at most 5,000
--     top n           the first number on the axis that is n or more, and not 0
--     edge m c        where the c-th of m places ends, from the left
--     middle m c      where its middle is
--     height t n      how high n fetches stand where t is at the top, from above
use Rattle.std.specs.Prelude.{ℕ, ◌+◌, ◌-◌, ◌*◌, ◌/◌, ◌%◌, min, max, cond, nat_le}

abbrev pub step : ℕ → ℕ
step n =
    cond (nat_le n 5) 1 (cond (nat_le n 10) 2 (cond (nat_le n 25) 5 (cond (nat_le n 50) 10 (cond (nat_le n 100) 20 (cond (nat_le n 250) 50
    (cond (nat_le n 500) 100 (cond (nat_le n 1000) 200 (cond (nat_le n 2500) 500 1000))))))))

unfoldable pub top : ℕ → ℕ
top n = (max n 1 + (step n - 1)) - (max n 1 + (step n - 1)) % step n

abbrev pub edge : ℕ → ℕ → ℕ
edge m c = 80 + 680 * c / m

abbrev pub middle : ℕ → ℕ → ℕ
middle m c = 80 + 340 * (2 * c - 1) / m

abbrev pub height : ℕ → ℕ → ℕ
height t n = 420 - 330 * min n t / t
