-- A list copied place by place onto the front of another, as far as both go.
use Rattle.std.proofs.Common.{◌≡◌, ℕ, ◌+◌, ◌<◌, min, List, ◌++◌, length, get_or, take, drop, set, sym, ap, ◌∙◌, ⊎_elim, arith}
use Rattle.std.proofs.lemmas.List.{take_more, take_more_set, take_all, drop_all}
use Rattle.std.proofs.lemmas.Bool.{cases_lt}

-- one place more
pub front_more :
    (source out : List ℕ) (i v : ℕ) → take i out ≡ take i source → i < length out → i < length source → v ≡ get_or source i 0 →
    take (i + 1) (set out i v) ≡ take (i + 1) source
front_more source out i v front here there same = let a = take_more_set out i v here in let b = take_more source i 0 there in cc

-- and all of them
pub copied :
    (source start front : List ℕ) (n : ℕ) → n ≡ min (length source) (length start) → length front ≡ n → take n front ≡ take n source →
    front ++ drop n start ≡ take (length start) source ++ drop (length source) start
copied source start front n end many same =
    let whole : front ≡ take n source = sym (take_all n front (omega arith)) ∙ same in
    ⊎_elim
    (λ lt.
    let e : n ≡ length source = omega arith in
    let a : take n source ≡ take (length start) source = take_all n source (omega arith) ∙ sym (take_all (length start) source (omega arith)) in
    let b : drop n start ≡ drop (length source) start = ap (λ (m : ℕ). drop m start) e in
    cc)
    (λ le.
    let e : n ≡ length start = omega arith in
    let a : take n source ≡ take (length start) source = ap (λ (m : ℕ). take m source) e in
    let b : drop n start ≡ drop (length source) start = drop_all n start (omega arith) ∙ sym (drop_all (length source) start (omega arith)) in
    cc)
    (cases_lt (length source) (length start))
