-- The pages that an index has marked: one more, none, and which is the first that is not.
use Rattle.std.proofs.Common.{◌≡◌, ℕ, suc, ◌+◌, ◌*◌, ◌<◌, ◌≤◌, Bool, not, List, [], ◌∷◌, ◌++◌, length, find, MatchBool, refl, ap, arith}
use Rattle.std.specs.Option.{unwrap_or}
use Rattle.std.proofs.lemmas.List.{take_all, length_push}
use Rattle.std.proofs.lemmas.Bool.Decides.{nat_tests}
use Rattle.paging.specs.Adversary.{first_missing}
use Rattle.paging.specs.Lists.{has, without}
use Rattle.paging.specs.Lru.{lru}
use Rattle.paging.proofs.Appends.{has_append}
use Rattle.paging.proofs.Lists.{has_front, length_without}
use Rattle.lru_cache.proofs.Cleared.{cleared}
use Rattle.recency.specs.Outcome.{fits}
use Rattle.recency.specs.Row as recent
use Rattle.recency.specs.Sound.{Sound, Emptied}
use Rattle.adversary.specs.Rules.{Marks}
use Rattle.adversary.specs.declared.challenge.Challenge.{Challenge}

-- a page that comes in where there is room
pub lru_room : (k : ℕ) (cache : List ℕ) (page : ℕ) → length cache < k → lru k cache page ≡ page ∷ without page cache
unfolding lru
lru_room k cache page room = let l = length_without page cache in take_all k (page ∷ without page cache) (grind (arith, nat_tests))

module _ (k : ℕ) (cache : List ℕ) (page : ℕ) (room : length cache < k) where
  pub has_lru : (x : ℕ) → has (lru k cache page) x ≡ has (page ∷ cache) x
  has_lru x = rw (lru_room k cache page room) (has_front page cache x)

  pub length_lru : length (lru k cache page) ≤ suc (length cache)
  length_lru = let l = length_without page cache in rw (lru_room k cache page room) (grind (arith, nat_tests))

marks_none : (k : ℕ) (row index : List ℕ) → Emptied k row index → Marks k index []
unfolding has
marks_none k row index e = record { sound = e.sound; same = λ x. ap (λ (xs : List ℕ). has xs x) e.none; few = omega (arith, ap length e.none) }

-- what `clear` leaves
pub marks_cleared :
    (c : Challenge) (row : List ℕ) (r : Bool) (row' : List ℕ) → 9 * c.k + 5 ≤ length row → r ≡ fits c.k (length row) →
    MatchBool r (Emptied c.k row row') (row' ≡ row) → Marks c.k row' []
marks_cleared c row r row' room is after =
    let low = c.low in
    let within = c.within in
    marks_none c.k row row' (cleared c.k row r row' (omega arith) c.high room is after)

has_push : (xs : List ℕ) (y x : ℕ) → has (xs ++ y ∷ []) x ≡ has (y ∷ xs) x
unfolding has
has_push xs y x = let a = has_append xs (y ∷ []) x in grind (arith, nat_tests)

-- one page more
pub marks_push :
    (k : ℕ) (index pages : List ℕ) (page : ℕ) (index' : List ℕ) → Marks k index pages → length pages < k →
    recent.pages index' ≡ lru k (recent.pages index) page → Sound k index' → Marks k index' (pages ++ page ∷ [])
unfolding has
marks_push k index pages page index' m room is sound =
    let cache = recent.pages index in
    let few = m.few in
    let l = length_lru k cache page (omega arith) in
    record {
      sound = sound;
      same = λ x. let a = has_lru k cache page (omega arith) x in let b = has_push pages page x in let s = m.same x in rw is (grind (arith, nat_tests));
      few = rw is (omega (arith, length_push pages page));
    }

-- the first that is not marked, and 0 where each is
pub missing_found : (pages cache : List ℕ) → unwrap_or (find (λ page. not (has cache page)) pages) 0 ≡ first_missing pages cache
unfolding first_missing
missing_found [] cache = refl
missing_found (page ∷ pages) cache = let i = missing_found pages cache in grind (arith, nat_tests)

-- only what stands in the cache matters, and not where
pub missing_same : (pages a b : List ℕ) → ((x : ℕ) → has a x ≡ has b x) → first_missing pages a ≡ first_missing pages b
unfolding first_missing
missing_same [] a b same = refl
missing_same (page ∷ pages) a b same = let i = missing_same pages a b same in let s = same page in grind (arith, nat_tests)
