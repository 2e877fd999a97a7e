use Rattle.std.proofs.Common.{◌≡◌, ◌<◌, ◌≤◌, true, false, ltb, [], length, sym, ap, ◌∙◌, arith}
use Rattle.std.proofs.lemmas.Bool.Decides.{nat_tests}
use Rattle.std.proofs.lemmas.List.{nil_from_length}
use Rattle.std.proofs.lemmas.Result.{err_from_is_err_and}
use Rattle.adversary.specs.Rules.{broken}
use Rattle.adversary.specs.declared.challenge.Challenge.{Challenge}
use Rattle.adversary.proofs.Broken.{fault_over, fault_first, fault_odd, fault_lacking, broken_first, broken_nothing, broken_after}
use Rattle.adversary.proofs.Marked.{marks_cleared}
use Rattle.adversary.proofs.Odd.{odd_marked}
use Rattle.adversary.proofs.reading.Reading.refuse.Goals as goal

first : (s : Challenge) → ltb 1 s.next ≡ false → s.next ≤ 1
first s not = grind (arith, nat_tests)

begun : (s : Challenge) → ltb 1 s.next ≡ true → 1 < s.next
begun s is = grind (arith, nat_tests)

pub returns-then-shown-c : goal.returns-then-shown-c
returns-then-shown-c c = record { cases = fault_over c.args.self.challenge c.args.self.row.now c.args.shown.now (omega arith) }

pub returns-else-is_empty : goal.returns-else-is_empty
returns-else-is_empty c =
    let s = c.args.self.challenge in
    let some : 0 < length c.args.shown.now = let e = c.is_empty.ensures in let t = c.if-is_empty.false in grind (arith, nat_tests) in
    record { cases = fault_first s c.args.self.row.now c.args.shown.now (first s (sym c.is_begun.ensures.value ∙ c.if-not-is_begun.true)) some (omega arith) }

pub returns-then-is_empty : goal.returns-then-is_empty
returns-then-is_empty c =
    let s = c.args.self.challenge in
    let none : c.args.shown.now ≡ [] = let e = c.is_empty.ensures in let t = c.if-is_empty.true in nil_from_length c.args.shown.now (grind (arith, nat_tests)) in
    let marks = marks_cleared s c.args.seen.now c.clear.result c.clear.new.row c.requires.seen_room c.clear.ensures.value c.clear.ensures.after in
    let same = broken_first s c.args.self.row.now c.args.shown.now (first s (sym c.is_begun.ensures.value ∙ c.if-not-is_begun.true)) in
    record { cases = (same ∙ ap (broken s.k [] []) none ∙ broken_nothing s.k, rw none marks) }

pub returns-in_err-refuse_odd : goal.returns-in_err-refuse_odd
returns-in_err-refuse_odd c =
    let s = c.args.self.challenge in
    let later = begun s (sym c.is_begun.ensures.value ∙ c.if-not-is_begun.false) in
    let p = err_from_is_err_and c.from_residual.result c.from_residual.ensures.1 in
    let marks = rw c.before-2.ensures.value at c.mark.ensures.marked in
    let odd = odd_marked s.k s.last c.mark.new.index _ c.args.shown.now marks in
    let why = rw odd at c.in_err-refuse_odd.ensures.cases in
    rw (p.1, p.2) (record { cases = fault_odd s c.args.self.row.now c.args.shown.now later (omega arith) _ why })

pub returns-then-not-contains : goal.returns-then-not-contains
returns-then-not-contains c =
    let s = c.args.self.challenge in
    let later = begun s (sym c.is_begun.ensures.value ∙ c.if-not-is_begun.false) in
    let kept = c.in_ok-refuse_odd.ensures.cases in
    let marks = rw c.before-2.ensures.value at c.mark.ensures.marked in
    let odd = odd_marked s.k s.last c.mark.new.index _ c.args.shown.now marks in
    let absent = sym (kept.1.same s.last) ∙ sym c.contains.ensures.value ∙ c.if-not-contains.true in
    record { cases = fault_lacking s c.args.self.row.now c.args.shown.now later (omega arith) (sym odd ∙ kept.0) absent }

pub returns : goal.returns
returns c =
    let s = c.args.self.challenge in
    let later = begun s (sym c.is_begun.ensures.value ∙ c.if-not-is_begun.false) in
    let kept = c.in_ok-refuse_odd.ensures.cases in
    let marks = rw c.before-2.ensures.value at c.mark.ensures.marked in
    let odd = odd_marked s.k s.last c.mark.new.index _ c.args.shown.now marks in
    let there = sym (kept.1.same s.last) ∙ sym c.contains.ensures.value ∙ c.if-not-contains.false in
    record { cases = (broken_after s c.args.self.row.now c.args.shown.now later (omega arith) (sym odd ∙ kept.0) there, kept.1) }
