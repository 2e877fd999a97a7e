-- A cache row read into its index page by page, and written from it.
use Rattle.std.proofs.Common.{◌≡◌, ℕ, suc, ◌+◌, ◌-◌, ◌<◌, ◌≤◌, true, false, List, [], ◌∷◌, ◌++◌, length, get_or, take, drop, set, replicate, ap, ◌∙◌, arith}
use borrow.Rule.Slice.PartMut.{put_mid}
use Rattle.std.proofs.lemmas.List.{take_all, drop-replicate, length-append, length-replicate, length-take, length-drop}
use Rattle.paging.specs.Lists.{has, distinct}
use Rattle.paging.specs.Lru.{lru}
use Rattle.paging.proofs.Appends.{distinct_back, distinct_cons}
use Rattle.paging.proofs.Requests.{lru_free}
use Rattle.lru_cache.specs.Rows.{cached}

pub length_cached : (row : List ℕ) (k : ℕ) → get_or row 1 0 ≤ k → 2 + k ≤ length row → length (cached row) ≡ get_or row 1 0
length_cached row k few long = let a = length-take (get_or row 1 0) (drop 2 row) in let b = length-drop 2 row in omega arith

-- the page that stands before those in the index is not among them, has a place, and comes in front of them
pub record Read (k page : ℕ) (pages : List ℕ) : Type 0 where
  pub room : length pages < k
  pub absent : has pages page ≡ false
  pub more : lru k pages page ≡ page ∷ pages

pub read_more :
    (k : ℕ) (left : List ℕ) (page : ℕ) (pages whole : List ℕ) → left ++ page ∷ pages ≡ whole → distinct whole ≡ true → length whole ≤ k → Read k page pages
read_more k left page pages whole is once few =
    let apart : distinct (page ∷ pages) ≡ true = distinct_back left (page ∷ pages) (ap distinct is ∙ once) in
    let l = length-append left (page ∷ pages) in
    let m = ap length is in
    let absent = (distinct_cons page pages apart).0 in
    record { room = omega arith; absent = absent; more = lru_free k page pages absent (omega arith) }

-- the places: the pages, and 0 in the free ones
pub places_are :
    (k : ℕ) (pages zeros : List ℕ) → zeros ≡ replicate k 0 → length pages ≤ k → take (length zeros) pages ++ drop (length pages) zeros ≡ pages ++ replicate (k - length pages) 0
places_are k pages zeros clear few =
    let long : length zeros ≡ k = ap length clear ∙ length-replicate k 0 in
    let a = take_all (length zeros) pages (omega arith) in
    let b : drop (length pages) zeros ≡ replicate (k - length pages) 0 = ap (drop (length pages)) clear ∙ drop-replicate (length pages) k 0 in
    cc

pub row_written :
    (k n : ℕ) (cache places : List ℕ) → 2 + k ≤ length cache → set (set (put_mid 2 (2 + k - 2) cache places) 0 k) 1 n ≡ k ∷ n ∷ (places ++ drop (2 + k) cache)
row_written k n [] places long = absurd (omega arith)
row_written k n (a ∷ []) places long = absurd (omega arith)
row_written k n (a ∷ b ∷ rest) places long =
    let f : 2 + k ≡ suc (suc k) = omega arith in
    let e : suc (suc k) - 2 ≡ k = omega arith in
    rw f (rw e)
