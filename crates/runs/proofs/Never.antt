-- A policy that keeps the rules is never refused for a broken one, nor at all as long as there are pages left.
use Rattle.std.proofs.Common.{◌≡◌, ℕ, zero, suc, ◌+◌, ◌-◌, ◌*◌, ◌^◌, ◌<◌, ◌≤◌, Bool, true, false, cond, ◌&&◌, ltb, leb, List, [], ◌∷◌, ◌++◌, take, Some, None, Option, sym, refl, ap, ◌∙◌, ⊎_elim, arith}
use Rattle.std.proofs.lemmas.Bool.{cases_lt, lt-ltb, le-ltb}
use Rattle.std.proofs.lemmas.Bool.Decides.{nat_tests}
use Rattle.paging.specs.Adversary.{once_each}
use Rattle.paging.specs.Lists.{has, distinct}
use Rattle.paging.specs.Policies.{Policy, keeps}
use Rattle.paging.specs.Rules.{Proper}
use Rattle.paging.specs.Schedules.{only_adds}
use Rattle.paging.specs.Stepwise.{Position, Play, start, complete, next_request, requested, settled, moved, step, plays, begins}
use Rattle.paging.proofs.Played.{plays_exactly}
use Rattle.paging.proofs.Steps.{plays_add}
use Rattle.lru_cache.specs.declared.refusals.Refusal.{Refusal}
use Rattle.lru_cache.specs.declared.refusals.Refusal.TheVariants.{NoPageLeft}
use Rattle.runs.specs.declared.stopped.Stopped.{Stopped}
use Rattle.adversary.specs.Rules.{first_odd, broken}
use Rattle.runs.specs.Runs.{played, asked_of, before_of, broken_after, stops}
use Rattle.adversary.specs.Steps.{told, exhausted}
use Rattle.runs.specs.Whole.{halts, Broke}
use Rattle.adversary.proofs.Broken.{broken_nothing, broken_none}
use Rattle.adversary.proofs.Chosen.{refusal_kept}

-- the rules leave no place where they are broken

proper_odd :
    (at : ℕ) (seen : List ℕ) (page : ℕ) (before shown : List ℕ) → distinct shown ≡ true → only_adds shown page before ≡ true →
    ((x : ℕ) → has shown x ≡ true → has seen x ≡ false) → first_odd at seen (page ∷ before) shown ≡ None
unfolding first_odd only_adds has distinct
proper_odd at seen page before [] once adds apart = refl
proper_odd at seen page before (x ∷ xs) once adds apart =
    let i =
    proper_odd (suc at) (x ∷ seen) page before xs (grind (arith, nat_tests)) (grind (arith, nat_tests))
    (λ y there. let a = apart y in let e : x ≡ y → has xs x ≡ has xs y = ap (has xs) in grind (arith, nat_tests)) in
    let here = apart x in
    grind (arith, nat_tests)

module _ (k : ℕ) (policy : Policy) (p : Proper k policy) where
  pub proper_unbroken : (history : List ℕ) → broken_after k policy history ≡ None
  unfolding keeps has
  proper_unbroken [] = ap (broken k [] []) p.obeys.starts ∙ broken_nothing k
  proper_unbroken (page ∷ history) =
      let goes = p.obeys.goes page history in
      let shown = policy (page ∷ history) in
      let before = policy history in
      let odd = proper_odd 0 [] page before shown (p.apart (page ∷ history)) (grind (arith, nat_tests)) (λ x there. refl) in
      broken_none k page before shown (grind (arith, nat_tests)) odd (grind (arith, nat_tests))

-- the next new page never goes back

module _ (k h : ℕ) where
  settled_next : (p : Position) → (settled k h p).next ≡ p.next
  unfolding settled
  settled_next p = go (complete k p && leb h (suc p.picks))
    where
      go :
          (t : Bool) →
          (cond {A = Position} t (record { next = p.next; pages = take h (once_each p.picked ((p.next - 1) ∷ p.pages)); picked = []; picks = 0 }) p).next ≡ p.next
      go true = refl
      go false = refl

  requested_next : (p : Position) (page : ℕ) → (requested k p page).next ≡ cond (complete k p) p.next (suc p.next)
  unfolding requested
  requested_next p page = go (complete k p)
    where
      go :
          (t : Bool) →
          (cond {A = Position} t (record { next = p.next; pages = p.pages; picked = once_each p.picked (page ∷ []); picks = suc p.picks })
          (record { next = suc p.next; pages = p.pages ++ page ∷ []; picked = p.picked; picks = p.picks })).next
          ≡ cond t p.next (suc p.next)
      go true = refl
      go false = refl

  module _ (policy : Policy) where
    step_next : (x : Play) → (step k h policy x).position.next ≡ cond (complete k x.position) x.position.next (suc x.position.next)
    unfolding step moved
    step_next x =
        let page = next_request k x.position (policy x.history) in
        settled_next (requested k x.position page) ∙ requested_next x.position page

    plays_next : (n : ℕ) (x : Play) → x.position.next ≤ (plays k h policy n x).position.next
    unfolding plays
    plays_next zero x = omega arith
    plays_next (suc n) x = let i = plays_next n (step k h policy x) in let s = step_next x in grind (arith, nat_tests)

    -- a new page that is requested is one of those counted at the end
    next_within :
        (m n : ℕ) → 0 < h → h ≤ k → n < h + m * k → complete k (played k h policy n).position ≡ false →
        (played k h policy n).position.next ≤ h + m * (suc k - h)
    unfolding begins plays
    next_within m n low le lt not-all =
        let x = played k h policy n in
        let d = h + m * k - suc n in
        let s = step_next x in
        let later = plays_next d (step k h policy x) in
        let parts = plays_add k h policy n (suc d) (h + m * k) (record { position = start; history = [] }) (omega arith) in
        let e = plays_exactly k h m policy low le in
        let end : (plays k h policy d (step k h policy x)).position.next ≡ suc (h + m * (suc k - h)) =
        ap (λ (y : Play). y.position.next) (sym parts ∙ e.0) ∙ e.2 in
        grind (arith, nat_tests)

-- so nothing is refused

exhausted_late : (k : ℕ) (p : Position) (e : Refusal) → exhausted k p ≡ Some e → (complete k p ≡ false) × (2 ^ 32 ≤ p.next)
unfolding exhausted
exhausted_late k p e is = go (complete k p) (ltb p.next (2 ^ 32)) refl refl is
  where
    go :
        (t u : Bool) → complete k p ≡ t → ltb p.next (2 ^ 32) ≡ u → cond t None (cond u None (Some NoPageLeft)) ≡ Some e →
        (complete k p ≡ false) × (2 ^ 32 ≤ p.next)
    go true u c l x = let z : ◌≡◌ {A = ℕ} 0 1 = cc in absurd (omega arith)
    go false true c l x = let z : ◌≡◌ {A = ℕ} 0 1 = cc in absurd (omega arith)
    go false false c l x = (c, grind (arith, nat_tests))

module _ (k h : ℕ) (policy : Policy) (m : ℕ) (s : Stopped) (p : Proper k policy) (why : halts k h policy m s.after ≡ Some s.refusal) where
  abbrev x : Play
  x = played k h policy s.after

  never_early : 0 < h → h ≤ k → h + m * (suc k - h) < 2 ^ 32 → s.after < h + m * k → ⊥
  never_early low le few lt =
      let none = proper_unbroken k policy p x.history in
      let kept = refusal_kept k x.position (asked_of x.history) (before_of policy x.history) (policy x.history) none in
      let t = lt-ltb s.after (h + m * k) lt in
      let w : stops k h policy s.after ≡ Some s.refusal = simp t at why in
      let late = exhausted_late k x.position s.refusal (sym kept ∙ w) in
      omega (arith, next_within k h policy m s.after low le lt late.0, late.1)

  never_last : h + m * k ≤ s.after → ⊥
  never_last ge =
      let none = proper_unbroken k policy p x.history in
      let t = le-ltb s.after (h + m * k) ge in
      let w : told (broken_after k policy x.history) None ≡ Some s.refusal = simp t at why in
      let v : None ≡ Some s.refusal = ap (λ (o : Option ℕ). told o None) (sym none) ∙ w in
      let z : ◌≡◌ {A = ℕ} 0 1 = cc in
      omega arith

pub never_broke :
    (k h : ℕ) (policy : Policy) (m : ℕ) (s : Stopped) (row : List ℕ) (current : Policy) → 0 < h → h ≤ k → Proper k policy →
    h + m * (suc k - h) < 2 ^ 32 → Broke k h policy m s row current → ⊥
never_broke k h policy m s row current low le p few b =
    ⊎_elim (never_early k h policy m s p b.why low le few) (never_last k h policy m s p b.why) (cases_lt s.after (h + m * k))
