-- The least requested goes: of two pages requested in turn, beside pages requested twice, each goes for the other.
--     often es     each page of es was requested twice at least
use Rattle.std.proofs.Common.{◌≡◌, ℕ, zero, suc, ◌+◌, ◌-◌, ◌<◌, ◌≤◌, Bool, true, false, ◌&&◌, leb, ◌≢◌, List, [], ◌∷◌, ◌++◌, length, sym, refl, ap, arith}
use Rattle.std.proofs.lemmas.Bool.Decides.{nat_tests}
use Rattle.paging.specs.Failing.{
  Entry,
  pages_in,
  count_of,
  others,
  fewest,
  counted,
  spared,
  entries,
  least_requested_goes,
  LeastRequestedFails,
}
use Rattle.paging.specs.Lists.{has}
use Rattle.paging.specs.Policies.{history_after}
use Rattle.paging.proofs.Alternating.{doubled, in_turn, alone, pair, served_in_turn, fetches_in_turn}
use Rattle.paging.proofs.Fresh.{Under}
use Rattle.paging.proofs.Histories.{history_append}

unfoldable often : List Entry → Bool
often [] = true
often (e ∷ es) = leb 2 e.count && often es

abbrev new : ℕ → Entry
new page = record { page = page; count = 1 }

pub others_absent : (page : ℕ) (es : List Entry) → has (pages_in es) page ≡ false → others page es ≡ es
unfolding others pages_in has
others_absent page [] absent = refl
others_absent page (e ∷ es) absent = let i = others_absent page es in grind (arith, nat_tests)

pub count_absent : (page : ℕ) (es : List Entry) → has (pages_in es) page ≡ false → count_of es page ≡ 0
unfolding count_of pages_in has
count_absent page [] absent = refl
count_absent page (e ∷ es) absent = let i = count_absent page es in grind (arith, nat_tests)

counted_not : (es : List Entry) → often es ≡ true → counted 1 es ≡ false
unfolding often counted
counted_not [] o = refl
counted_not (e ∷ es) o = let i = counted_not es in grind (arith, nat_tests)

fewest_often : (e : Entry) (es : List Entry) → often (e ∷ es) ≡ true → 2 ≤ fewest (e ∷ es)
unfolding often fewest
fewest_often e [] o = grind (arith, nat_tests)
fewest_often e (f ∷ es) o = let i = fewest_often f es in grind (arith, nat_tests)

fewest_new : (page : ℕ) (es : List Entry) → often es ≡ true → fewest (new page ∷ es) ≡ 1
unfolding fewest
fewest_new page [] o = refl
fewest_new page (e ∷ es) o = omega (arith, fewest_often e es o)

spared_new : (page : ℕ) (es : List Entry) → often es ≡ true → spared (fewest (new page ∷ es)) (new page ∷ es) ≡ es
unfolding spared
spared_new page es o = let c = counted_not es o in rw (fewest_new page es o) (grind (arith, nat_tests))

record Traded (k a b : ℕ) (history : List ℕ) : Type 0 where
  rest : List Entry
  holds : entries k history ≡ new b ∷ rest
  full : suc (length rest) ≡ k
  twice : often rest ≡ true
  lacks_a : has (pages_in rest) a ≡ false
  lacks_b : has (pages_in rest) b ≡ false
  apart : a ≢ b

-- a page that is not there: with room nothing goes, and without room the new one
missed_room :
    (k page : ℕ) (history : List ℕ) → has (pages_in (entries k history)) page ≡ false → length (entries k history) < k →
    entries k (page ∷ history) ≡ new page ∷ entries k history
unfolding entries
missed_room k page history absent room =
    let es = entries k history in
    let o = others_absent page es absent in
    let c = count_absent page es absent in
    grind (arith, nat_tests)

missed_full :
    (k a b : ℕ) (history : List ℕ) (rest : List Entry) → entries k history ≡ new b ∷ rest → suc (length rest) ≡ k → often rest ≡ true →
    has (pages_in rest) a ≡ false → a ≢ b → entries k (a ∷ history) ≡ new a ∷ rest
unfolding entries pages_in count_of has
missed_full k a b history rest e full twice lacks apart =
    let o = others_absent a rest lacks in
    let c = count_absent a rest lacks in
    let s = spared_new b rest twice in
    rw e (grind (arith, nat_tests))

traded_goes :
    (k a b : ℕ) (history : List ℕ) → Traded k a b history → (has (least_requested_goes k history) a ≡ false) × Traded k b a (a ∷ history)
unfolding least_requested_goes pages_in has
traded_goes k a b history p =
    let e = p.holds in
    let d = p.apart in
    let la = p.lacks_a in
    let after : entries k (a ∷ history) ≡ new a ∷ p.rest = missed_full k a b history p.rest e p.full p.twice la d in
    let goes : Traded k b a (a ∷ history) = record { rest = p.rest; holds = after; full = p.full; twice = p.twice; lacks_a = p.lacks_b; lacks_b = la; apart = λ z. d (sym z) } in
    (rw e (grind (arith, nat_tests)), goes)

-- and the page requested last again
again :
    (k page : ℕ) (history : List ℕ) (es : List Entry) → entries k history ≡ new page ∷ es → has (pages_in es) page ≡ false →
    entries k (page ∷ history) ≡ record { page = page; count = 2 } ∷ es
unfolding entries pages_in count_of others has
again k page history es e absent = let o = others_absent page es absent in rw e (grind (arith, nat_tests))

opening_entries :
    (k c n : ℕ) (history : List ℕ) → Under n (pages_in (entries k history)) → length (entries k history) + c ≤ k →
    often (entries k history) ≡ true →
    Under (n + c) (pages_in (entries k (history_after history (doubled c n))))
    × (length (entries k (history_after history (doubled c n))) ≡ length (entries k history) + c)
    × (often (entries k (history_after history (doubled c n))) ≡ true)
unfolding history_after doubled has pages_in often
opening_entries k zero n history u room o = (λ x here. omega (arith, u x here), omega arith, o)
opening_entries k (suc c) n history u room o =
    let v = u n in
    let absent : has (pages_in (entries k history)) n ≡ false = grind (arith, nat_tests) in
    let t = again k n (n ∷ history) (entries k history) (missed_room k n history absent (omega arith)) absent in
    let size = ap length t in
    let under : Under (suc n) (pages_in (entries k (n ∷ n ∷ history))) = rw t (λ x here. let w = u x in grind (arith, nat_tests)) in
    let i = opening_entries k c (suc n) (n ∷ n ∷ history) under (omega arith) (rw t (grind (arith, nat_tests))) in
    (λ x here. omega (arith, i.0 x here), omega (arith, i.1), i.2)

traded_first :
    (k : ℕ) (history : List ℕ) → Under k (pages_in (entries k history)) → suc (length (entries k history)) ≡ k →
    often (entries k history) ≡ true → Traded k (suc k) k (k ∷ history)
traded_first k history u size o =
    let es = entries k history in
    let v = u k in
    let w = u (suc k) in
    let absent : has (pages_in es) k ≡ false = grind (arith, nat_tests) in
    record {
      rest = es;
      holds = missed_room k k history absent (omega arith);
      full = size;
      twice = o;
      lacks_a = grind (arith, nat_tests);
      lacks_b = absent;
      apart = λ z. omega arith;
    }

pub least_requested_fails : LeastRequestedFails
unfolding in_turn history_after entries pages_in has often
least_requested_fails k n two =
    let c = k - 1 in
    let s = served_in_turn k c (suc n) k (suc k) two (λ e. omega arith) (omega arith) in
    let before = history_after [] (doubled c 1) in
    let o = opening_entries k c 1 [] (λ x here. grind (arith, nat_tests)) (omega arith) refl in
    let first = traded_first k before (λ x here. omega (arith, o.0 x here)) (omega (arith, o.1)) o.2 in
    let f = fetches_in_turn (least_requested_goes k) (Traded k) (traded_goes k) n (suc k) k (k ∷ before) first in
    (doubled c 1 ++ in_turn (suc n) k (suc k), alone c 1 ++ pair (suc n) k (suc k), rw history_append (omega arith), s.0, s.1)
