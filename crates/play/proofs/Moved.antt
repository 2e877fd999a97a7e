-- What a piece leaves over after its last whole request, moved to the front. Assumes nothing.
--     moved_front     in front stands what is left over
use Rattle.std.proofs.Common.{◌≡◌, ℕ, ◌+◌, ◌-◌, ◌%◌, ◌≤◌, List, length, take, drop, sym, ap, ◌∙◌, arith, length-drop}
use Rattle.std.proofs.lemmas.List.{length-take-le, take_at, drop-take}
use Rattle.trace.specs.Requests.{left_over}
use Rattle.trace.proofs.Groups.{left_over_is}
use lib.Seq.{paste}

rest_is : (was : List ℕ) (n : ℕ) → n ≤ length was → take (n % 4) (drop (n - n % 4) was) ≡ left_over (take n was)
rest_is was n h =
    let long : length (take n was) ≡ n = length-take-le n was h in
    let split : n ≡ n - n % 4 + n % 4 = omega arith in
    sym (left_over_is (take n was) ∙ rw long (ap (λ (j : ℕ). drop (n - n % 4) (take j was)) split ∙ drop-take (n - n % 4) (n % 4) was))

pub moved_front : (was now : List ℕ) (n : ℕ) → n ≤ length was → now ≡ paste was 0 (drop (n - n % 4) was) (n - (n - n % 4)) → take (n % 4) now ≡ left_over (take n was)
moved_front was now n h after =
    let rest = drop (n - n % 4) was in
    let few : n - (n - n % 4) ≡ n % 4 = omega arith in
    let long : length (take (n % 4) rest) ≡ n % 4 = length-take-le (n % 4) rest (omega (arith, length-drop (n - n % 4) was)) in
    ap (take (n % 4)) (rw few at after) ∙ take_at (take (n % 4) rest) (drop (0 + n % 4) was) (n % 4) long ∙ rest_is was n h
