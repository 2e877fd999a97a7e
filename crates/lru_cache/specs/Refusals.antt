-- The number and the place of each reason to turn input away, and what is printed of it. Assumes nothing: these are definitions.
--     number_of e         its number, 1 to 8
--     place_of e          where it applies
--     refusal_bytes e     what is printed of it, as bytes: `refused 1 at 0`
use Rattle.std.specs.Prelude.{ℕ, ◌^◌, List, ◌++◌, codes, decimal}
use Rattle.lru_cache.specs.declared.refusals.Refusal.{Refusal}
use Rattle.lru_cache.specs.declared.refusals.Refusal.TheVariants.{NoCache, Overfull, BadPage, BadRequest, LongTrace, BadCapacities, ShortReport, BadPlaces, BrokenRule, NoPageLeft}

abbrev pub number_of : Refusal → ℕ
number_of NoCache = 1
number_of Overfull = 1
number_of (BadPage at) = 2
number_of (BadRequest page) = 3
number_of (LongTrace len) = 4
number_of (BadCapacities m) = 5
number_of (ShortReport len) = 5
number_of (BadPlaces h) = 6
number_of (BrokenRule at) = 7
number_of NoPageLeft = 8

abbrev pub place_of : Refusal → ℕ
place_of NoCache = 0
place_of Overfull = 1
place_of (BadPage at) = at
place_of (BadRequest page) = page
place_of (LongTrace len) = len
place_of (BadCapacities m) = m
place_of (ShortReport len) = len
place_of (BadPlaces h) = h
place_of (BrokenRule at) = at
place_of NoPageLeft = 2 ^ 32

abbrev pub refusal_bytes : Refusal → List ℕ
refusal_bytes e = codes "refused " ++ (decimal (number_of e) ++ (codes " at " ++ decimal (place_of e)))
