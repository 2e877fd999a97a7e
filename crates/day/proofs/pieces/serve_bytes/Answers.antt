-- The part of the array that is served is what the bytes request.
use Rattle.std.proofs.Common.{◌≡◌, ℕ, List, ◌++◌, length, take, string_bytes, ap, ◌∙◌, arith}
use Rattle.std.proofs.lemmas.List.{length-take-le}
use Rattle.lru_cache.specs.Rows.{capacity, cached, first_wide}
use Rattle.day.proofs.Decoded.{all_decoded, requests_small}
use Rattle.day.proofs.Lines.{lines_answered}
use Rattle.day.proofs.pieces.serve_bytes.Goals as goal

pub answer-requires-clause-small : goal.answer-requires-clause-small
answer-requires-clause-small c =
    ap first_wide (all_decoded _ _ _ _ c.decode-count.ensures.value c.decode-count.ensures.after (omega arith)) ∙ requests_small c.args.bytes.now c.type_inv.bytes

pub returns-in-Ok-clause-after : goal.returns-in-Ok-clause-after
returns-in-Ok-clause-after c =
    rw (all_decoded _ _ _ _ c.decode-count.ensures.value c.decode-count.ensures.after (omega arith)) at c.in-Ok.ensures.after

pub returns-in-Ok-clause-lines : goal.returns-in-Ok-clause-lines
returns-in-Ok-clause-lines c ok =
    let k = capacity c.args.cache.now in
    let cache = cached c.args.cache.now in
    let e = all_decoded _ _ _ _ c.decode-count.ensures.value c.decode-count.ensures.after (omega arith) in
    let long : length (take c.decode-count.result c.decode-count.new.out) ≡ c.decode-count.result = length-take-le _ _ (omega arith) in
    let replied = rw long at c.in-Ok.ensures.replied in
    c.tell.ensures.lines ok ∙ ap (λ (ls : List ℕ). string_bytes c.args.text.now ++ ls) (lines_answered k cache _ _ _ e replied)

pub returns-in-Err-clause-after : goal.returns-in-Err-clause-after
returns-in-Err-clause-after c =
    rw (all_decoded _ _ _ _ c.decode-count.ensures.value c.decode-count.ensures.after (omega arith)) at c.in-Err.ensures.after

pub returns-in-Err-clause-lines : goal.returns-in-Err-clause-lines
returns-in-Err-clause-lines c ok =
    let k = capacity c.args.cache.now in
    let cache = cached c.args.cache.now in
    let e = all_decoded _ _ _ _ c.decode-count.ensures.value c.decode-count.ensures.after (omega arith) in
    c.tell_refused.ensures.lines ok ∙ ap (λ (ls : List ℕ). string_bytes c.args.text.now ++ ls) (lines_answered k cache _ _ _ e c.in-Err.ensures.replied)
