use Rattle.std.proofs.Common.{◌≡◌, ◌+◌, ◌*◌, ◌≤◌, leb, true, List, ℕ, length, Option, refl, ◌∙◌, arith}
use Rattle.std.proofs.lemmas.Bool.Decides.{nat_tests}
use Rattle.std.proofs.lemmas.Result.{err_from_is_err_and}
use Rattle.lru_cache.specs.declared.refusals.Refusal.{Refusal}
use Rattle.recency.specs.Row as recent
use Rattle.adversary.specs.declared.challenge.Challenge.{Challenge}
use Rattle.adversary.specs.Places.{asked_in, shown_in, position_in}
use Rattle.adversary.specs.Steps.{if_long}
use Rattle.adversary.proofs.Chosen.{refusal_fault, aimed}
use Rattle.adversary.proofs.Stepped.{aimed_new, stepped}
use Rattle.adversary.proofs.challenge.Challenge.step_apart.Goals as goal

long_enough : (s : Challenge) (row : List ℕ) (e : Option Refusal) → 3 * s.k + 1 ≤ length row → if_long s row e ≡ e
long_enough s row e long = let t : leb (3 * s.k + 1) (length row) ≡ true = grind (arith, nat_tests) in rw t refl

pub returns-in_err-refuse : goal.returns-in_err-refuse
returns-in_err-refuse g c =
    let s = c.args.self in
    let row = c.args.row.now in
    let same = c.in_ok-reading.ensures.cases in
    let long = rw (same.0, same.1) at c.in_ok-reading.reading.long in
    let fault = rw (same.0, same.1) at c.in_err-refuse.ensures.cases in
    let p = err_from_is_err_and c.from_residual-in_err-refuse.result c.from_residual-in_err-refuse.ensures.1 in
    let why = refusal_fault s.k (position_in s row) (asked_in s) (shown_in s row) c.args.shown.now _ fault in
    rw (p.1, p.2) (record { cases = (long_enough s row _ long ∙ why, refl) })

pub returns-in_err-page : goal.returns-in_err-page
returns-in_err-page g c =
    let s = c.args.self in
    let row = c.args.row.now in
    let same = c.in_ok-reading.ensures.cases in
    let long = rw (same.0, same.1) at c.in_ok-reading.reading.long in
    let f = rw (same.0, same.1) at c.in_ok-refuse.ensures.cases in
    let page = rw (same.0, same.1) at c.choose.ensures.cases in
    let a = aimed s row c.args.shown.now (recent.pages c.refuse.new.seen) f.1.same f.0 c.choose.result page in
    let p = err_from_is_err_and c.from_residual-in_err-page.result c.from_residual-in_err-page.ensures.1 in
    rw (p.1, p.2) (record { cases = (long_enough s row _ long ∙ (rw c.in_err-page.was at a), refl) })

pub enter-requires-clause-new : goal.enter-requires-clause-new
enter-requires-clause-new g c =
    let s = c.args.self in
    let row = c.args.row.now in
    let same = c.in_ok-reading.ensures.cases in
    let long = rw (same.0, same.1) at c.in_ok-reading.reading.long in
    let f = rw (same.0, same.1) at c.in_ok-refuse.ensures.cases in
    let page = rw (same.0, same.1) at c.choose.ensures.cases in
    let a = aimed s row c.args.shown.now (recent.pages c.refuse.new.seen) f.1.same f.0 c.choose.result page in
    aimed_new s row c.args.shown.now c.in_ok-page.page (rw c.in_ok-page.was at a) long

pub returns : goal.returns
returns g c =
    let same = c.in_ok-reading.ensures.cases in
    let f = rw (same.0, same.1) at c.in_ok-refuse.ensures.cases in
    let page = rw (same.0, same.1) at c.choose.ensures.cases in
    let a = aimed c.args.self c.args.row.now c.args.shown.now (recent.pages c.refuse.new.seen) f.1.same f.0 c.choose.result page in
    let s = c.store.ensures in
    let m = c.enter.ensures.moved in
    record {
      cases =
          stepped c.args.self c.args.row.now c.args.shown.now c.in_ok-page.page (rw c.in_ok-page.was at a) c.store.new.row
          c.enter.result c.enter.new.row s.front s.after s.beyond
          (record {
            position = m.position;
            last_is = m.last_is;
            shown_is = m.shown_is;
            k_is = m.k_is;
            h_is = m.h_is;
            begun = m.begun;
            rest = m.rest;
          });
    }
