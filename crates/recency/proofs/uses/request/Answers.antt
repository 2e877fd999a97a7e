use Rattle.std.proofs.Common.{inl, inr, not, ap, ◌∙◌, arith}
use Rattle.recency.proofs.Chosen.{known}
use Rattle.recency.proofs.Oldest.{oldest_near}
use Rattle.recency.proofs.Outcomes.{outcome_filled}
use Rattle.recency.proofs.Pages.{page_there, length_pages}
use Rattle.recency.proofs.Sought.{sought_sound, sought_pages, sought_beyond}
use Rattle.recency.proofs.uses.request.Goals as goal
use Rattle.recency.proofs.uses.request.Goals.{else-row-k-via-then-row-k+else-is_none, else-row-k-via-else-row-k}

pub seek-found-requires-clause-sound : goal.seek-found-requires-clause-sound
seek-found-requires-clause-sound c = sought_sound c.args.k c.args.row.now c.args.page c.requires.sound

pub fill-requires-clause-sound : goal.fill-requires-clause-sound
fill-requires-clause-sound c = sought_sound c.args.k c.args.row.now c.args.page c.requires.sound

pub fill-requires-clause-absent : goal.fill-requires-clause-absent
fill-requires-clause-absent c =
    let s = sought_sound c.args.k c.args.row.now c.args.page c.requires.sound in
    page_there c.args.k _ s c.args.page c.seek-found.result c.seek-found.ensures.cases ∙ c.if-is_none.ensures

pub returns-then-is_none : goal.returns-then-is_none
returns-then-is_none c =
    let k = c.args.k in
    let row = c.args.row.now in
    let page = c.args.page in
    let s = sought_sound k row page c.requires.sound in
    let absent = page_there k _ s page c.seek-found.result c.seek-found.ensures.cases ∙ c.if-is_none.ensures in
    let same = sought_pages k row page c.requires.sound in
    let filled = outcome_filled k _ page absent (omega (arith, length_pages k _ s)) in
    record {
      value = rw same at filled;
      after = rw same at c.fill.ensures.after;
      sound = c.fill.ensures.sound;
      beyond = c.fill.ensures.beyond ∙ sought_beyond k row page c.requires.sound;
    }

pub replace-requires : goal.replace-requires
replace-requires c =
    let s = sought_sound c.args.k c.args.row.now c.args.page c.requires.sound in
    record {
      sound = s;
      last = oldest_near c.args.k _ s;
      found = known c.args.k _ c.args.page s c.seek-found.result c.seek-found.ensures.cases
          (elim c.else-row-k.branch [
            | else-row-k-via-then-row-k+else-is_none w ↦ inr (w.is_none.ensures ∙ ap not w.if-is_none.false)
            | else-row-k-via-else-row-k w ↦ inl (omega (arith, w.if-row-k.false))
          ]);
    }

pub returns : goal.returns
returns c =
    let same = sought_pages c.args.k c.args.row.now c.args.page c.requires.sound in
    let r = c.replace.ensures in
    record {
      value = rw same at r.value;
      after = rw same at r.after;
      sound = r.sound;
      beyond = r.beyond ∙ sought_beyond c.args.k c.args.row.now c.args.page c.requires.sound;
    }
