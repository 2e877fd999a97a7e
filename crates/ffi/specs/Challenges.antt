-- What is promised of a challenge whose policy is the caller, for every answer r. Assumes nothing: these are definitions.
--     no_start k h n m               why there is no challenge of k places beside h on rows of n and m numbers, or None
--     Started k h state row r ..     state holds the numbers of such a challenge before its first request
--     Asked state row shown r ..     the challenge that state has the numbers of has asked for a page, or says why not
--     Requested c state row ..       c has asked for a page, and state and row are where the adversary stands then
--     Accepted state row shown r     what is shown after the last request keeps the rules, or not
--     Unchanged e state row r ..     that was the reason not to, and the rows are as they were
use Rattle.std.specs.Prelude.{◌≡◌, ℕ, cond, List, ◌++◌, length, drop, Some, Option, MatchOption, nat_le}
use Rattle.lru_cache.specs.declared.refusals.Refusal.{Refusal}
use Rattle.lru_cache.specs.declared.refusals.Refusal.TheVariants.{NoCache}
use Rattle.adversary.specs.declared.challenge.Challenge.{Challenge}
use Rattle.adversary.specs.Begins.{Begun, unfit}
use Rattle.adversary.specs.Steps.{refusal_in, fault_in, Stepped}
use Rattle.ffi.specs.Numbers.{as_count, as_page, as_refusal}
use Rattle.ffi.specs.States.{numbers_of, Stands}

abbrev pub no_start : ℕ → ℕ → ℕ → ℕ → Option Refusal
no_start k h n m = cond (nat_le 8 n) (unfit k h m) (Some NoCache)

pub record Started (k h : ℕ) (state row : List ℕ) (r : ℕ) (state' : List ℕ) : Type 0 where
  pub value : r ≡ as_count 0
  pub challenge : Challenge
  pub begun : Begun k h row challenge
  pub unasked : challenge.last ≡ 0
  pub after : state' ≡ numbers_of challenge ++ drop 8 state

pub record Unchanged (e : Refusal) (state row : List ℕ) (r : ℕ) (state' row' : List ℕ) : Type 0 where
  pub value : r ≡ as_refusal e
  pub same_state : state' ≡ state
  pub same_row : row' ≡ row

pub record Requested (c : Challenge) (state row shown : List ℕ) (r : ℕ) (state' row' : List ℕ) : Type 0 where
  pub next : Challenge
  pub stepped : Stepped c row shown next row'
  pub value : r ≡ as_page next.last
  pub after : state' ≡ numbers_of next ++ drop 8 state

pub record Asked (state row shown : List ℕ) (r : ℕ) (state' row' : List ℕ) : Type 0 where
  pub challenge : Challenge
  pub stands_at : Stands state (length row) challenge
  pub cases : MatchOption (refusal_in challenge row shown) (Requested challenge state row shown r state' row') (λ e. Unchanged e state row r state' row')

pub record Accepted (state row shown : List ℕ) (r : ℕ) : Type 0 where
  pub challenge : Challenge
  pub stands_at : Stands state (length row) challenge
  pub cases : MatchOption (fault_in challenge row shown) (r ≡ as_count 0) (λ e. r ≡ as_refusal e)
