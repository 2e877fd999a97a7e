-- A text piece by piece. Assumes nothing.
--     pages_append     two pieces, one after the other, name what the whole names
--     after_append     and what is known then is the same
use Rattle.std.proofs.Common.{◌≡◌, ℕ, List, [], ◌∷◌, ◌++◌, sym, refl, ap, ◌∙◌, append_assoc}
use Rattle.std.specs.Option.{option_to_list}
use Rattle.text.specs.Texts.{State, page_at, step, pages_from, after}

pub pages_append : (s : State) (xs ys : List ℕ) → pages_from s (xs ++ ys) ≡ pages_from s xs ++ pages_from (after s xs) ys
unfolding pages_from after
pages_append s [] ys = refl
pages_append s (x ∷ xs) ys =
    ap (λ (l : List ℕ). option_to_list (page_at s x) ++ l) (pages_append (step s x) xs ys)
    ∙ sym (append_assoc (option_to_list (page_at s x)) (pages_from (step s x) xs) (pages_from (after (step s x) xs) ys))

pub after_append : (s : State) (xs ys : List ℕ) → after s (xs ++ ys) ≡ after (after s xs) ys
unfolding after
after_append s [] ys = refl
after_append s (x ∷ xs) ys = after_append (step s x) xs ys
