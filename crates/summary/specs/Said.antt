-- The paragraph that a summary is as text, as bytes. Assumes nothing: these are definitions.
--     counted n one more        the words for one of something, or n and the word for more
--     amount_bytes a            `10 requests`, `1 page`, `5 different pages`, `3 places`, `3 times as many`
--     hundredths_bytes n        n hundredths, with a point before the last two digits
--     bound_bytes s             `(3 - 1 + 1) x 8 <= 3 x 10`
--     fetched_bytes s           what LRU fetched, how few anybody could have fetched, and how many times as many these are
--     nothing_line, counts_line s, fetched_line s, promised_line s, tightest_line s, needed_line s
--                               the sentences, each with its line break
--     paragraph s               the sentences of a summary, a line each
use Rattle.std.specs.Prelude.{ℕ, ◌/◌, ◌%◌, cond, List, ◌++◌, codes, decimal, ◌==◌}
use Rattle.summary.specs.declared.amounts.Amount.{Amount}
use Rattle.summary.specs.declared.amounts.Amount.TheVariants.{Requests, Pages, Places, Times}
use Rattle.summary.specs.declared.summaries.Summary.{Summary}

abbrev pub counted : ℕ → List ℕ → List ℕ → List ℕ
counted n one more = cond (n == 1) one (decimal n ++ more)

abbrev pub amount_bytes : Amount → List ℕ
amount_bytes (Requests n) = counted n (codes "1 request") (codes " requests")
amount_bytes (Pages n) = counted n (codes "1 page") (codes " different pages")
amount_bytes (Places n) = counted n (codes "1 place") (codes " places")
amount_bytes (Times n) = counted n (codes "as many") (codes " times as many")

abbrev pub hundredths_bytes : ℕ → List ℕ
hundredths_bytes n = decimal (n / 100) ++ (codes "." ++ (decimal (n / 10 % 10) ++ decimal (n % 10)))

abbrev pub bound_bytes : Summary → List ℕ
bound_bytes s =
    codes "(" ++ (decimal s.places ++ (codes " - " ++ (decimal s.tight ++ (codes " + 1) x " ++ (decimal s.house
    ++ (codes " <= " ++ (decimal s.places ++ (codes " x " ++ decimal s.against))))))))

abbrev pub fetched_bytes : Summary → List ℕ
fetched_bytes s =
    decimal s.house ++ (codes ", and nobody could have fetched fewer than " ++ (decimal s.known
    ++ (codes ": at most " ++ (hundredths_bytes s.hundredths ++ codes " times as many."))))

abbrev pub nothing_line : List ℕ
nothing_line = codes "There were no requests, and nothing was fetched.\n"

abbrev pub counts_line : Summary → List ℕ
counts_line s = amount_bytes (Requests s.requests) ++ (codes " for " ++ (amount_bytes (Pages s.different) ++ codes ".\n"))

abbrev pub fetched_line : Summary → List ℕ
fetched_line s = codes "With " ++ (amount_bytes (Places s.places) ++ (codes " the house fetched " ++ (fetched_bytes s ++ codes "\n")))

abbrev pub promised_line : Summary → List ℕ
promised_line s =
    codes "Promised: at most " ++ (amount_bytes (Times s.places) ++ (codes " as anybody with " ++ (amount_bytes (Places s.places) ++ codes ".\n")))

abbrev pub tightest_line : Summary → List ℕ
tightest_line s =
    codes "Tightest for this day against " ++ (amount_bytes (Places s.tight) ++ (codes ": " ++ (bound_bytes s
    ++ (codes ", so at most " ++ (decimal s.allowed ++ codes ".\n")))))

abbrev pub needed_line : Summary → List ℕ
needed_line s =
    codes "To fetch no more than " ++ (decimal s.known ++ (codes " the house needs " ++ (amount_bytes (Places s.needed) ++ codes ".\n")))

unfoldable pub paragraph : Summary → List ℕ
paragraph s =
    cond (s.requests == 0) nothing_line
    (counts_line s ++ (fetched_line s ++ (promised_line s ++ (tightest_line s ++ needed_line s))))
