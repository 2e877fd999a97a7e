-- The text of pages names them again. Assumes nothing.
--     small_pages     what a text names are pages
--     lines_back      the lines of pages name them
--     noted_back      also behind a header's line
use Rattle.std.proofs.Common.{◌≡◌, ℕ, ◌+◌, ◌-◌, ◌*◌, ◌/◌, ◌%◌, ◌^◌, ◌<◌, ◌≤◌, min, false, eqb, List, [], ◌∷◌, ◌++◌, length, Some, None, codes, decimal, Option, refl, ap, ◌∙◌, subst, append_assoc, arith}
use Rattle.std.proofs.lemmas.Fmt.{decimal_by_steps}
use Rattle.std.proofs.lemmas.List.{length-take, length_push}
use Rattle.std.proofs.lemmas.Bool.{ne_eqb}
use Rattle.std.specs.Option.{option_and_then, option_to_list}
use Rattle.trace.specs.declared.headers.Header.{Header}
use Rattle.text.specs.Texts.{State, with_digit, ends_mark, longer, with_byte, page_of, end_word, page_in, page_at, step_in, step, pages_from, after, pages_in}
use Rattle.text.specs.declared.readers.Mode.{Mode}
use Rattle.text.specs.declared.readers.Mode.TheVariants.{Words, Comment, Bad}
use Rattle.text.proofs.Pieces.{pages_append, after_append}
use Rattle.convert.specs.Days.{text_of, header_line}
use Rattle.convert.specs.Claims.{Below}

-- what is read so far of a word is a page
abbrev Small : Option ℕ → Type 0
Small o = Below 4294967296 (option_to_list o)

small_then : (o : Option ℕ) (b : ℕ) → Small (option_and_then (λ n. with_digit n b) o)
small_then None b = tt
small_then (Some n) b = grind arith

abbrev SmallIn : State → Type 0
SmallIn s = Small s.value

module _ (s : State) (small : SmallIn s) where
  small_of : Small (page_of s)
  small_of = grind arith

  small_end : (l : ℕ) (m : Mode) → SmallIn (end_word s l m)
  small_end l m = grind arith

  small_in : (m : Mode) (b : ℕ) → Small (page_in m s b)
  small_in Words b = grind (arith, small_of)
  small_in Comment b = grind (arith, small_of)
  small_in Bad b = tt

  small_step : (m : Mode) (b : ℕ) → SmallIn (step_in m s b)
  small_step Words b = grind (arith, small_end, small_then)
  small_step Comment b = grind (arith, small_end)
  small_step Bad b = small

below_append : (n : ℕ) (xs ys : List ℕ) → Below n xs → Below n ys → Below n (xs ++ ys)
below_append n [] ys h g = g
below_append n (x ∷ xs) ys h g = (h.0, below_append n xs ys h.1 g)

pub small_pages : (s : State) (text : List ℕ) → SmallIn s → Below 4294967296 (pages_from s text)
unfolding pages_from
small_pages s [] small = tt
small_pages s (b ∷ text) small =
    below_append 4294967296 (option_to_list (page_at s b)) (pages_from (step s b) text) (small_in s small s.mode b)
    (small_pages (step s b) text (small_step s small s.mode b))

-- between words
abbrev clean : ℕ → State
clean l = record { line = l; mode = Words; told = []; value = Some 0 }

-- inside a word that is the number v so far
record Word (l v : ℕ) (s : State) : Type 0 where
  line_is : s.line ≡ l
  mode_is : s.mode ≡ Words
  value_is : s.value ≡ Some v

-- no digit ends the mark that may stand in front of a word
not_mark : (word : List ℕ) (b : ℕ) → b ≤ 57 → ends_mark word b ≡ false
not_mark [] b high = refl
not_mark (first ∷ []) b high = refl
not_mark (first ∷ second ∷ []) b high = grind arith
not_mark (first ∷ second ∷ third ∷ word) b high = refl

module _ (l v : ℕ) (s : State) (word : Word l v s) where
  digit_step : (b : ℕ) → 48 ≤ b → b ≤ 57 → (step s b ≡ with_byte s b) × (page_at s b ≡ None)
  digit_step b low high = let mode = word.mode_is in rw mode (grind arith, grind arith)

  digit_value : (b : ℕ) → 48 ≤ b → b ≤ 57 → 10 * v + (b - 48) < 4294967296 → with_digit v b ≡ Some (10 * v + (b - 48))
  digit_value b low high small = grind arith

  digit_more : (b : ℕ) → 48 ≤ b → b ≤ 57 → 10 * v + (b - 48) < 4294967296 → Word l (10 * v + (b - 48)) (step s b) × (0 < length (step s b).told)
  digit_more b low high small =
      let no = not_mark s.told b high in
      let put : with_byte s b ≡ longer s b = rw no refl in
      let went = (digit_step b low high).0 ∙ put in
      let is = word.value_is in
      let value = digit_value b low high small in
      let some : 0 < length (longer s b).told = omega (arith, length-take {A = ℕ}, length_push s.told b) in (
        record { line_is = rw went word.line_is; mode_is = rw went word.mode_is; value_is = rw (went, is) value },
        rw went some,
      )

  line_ends : 0 < length s.told → (page_at s 10 ≡ Some v) × (step s 10 ≡ clean (min (l + 1) (2 ^ 64 - 1)))
  line_ends some =
      let mode = word.mode_is in
      let is = word.value_is in
      let line = word.line_is in
      rw (mode, is, line) (grind arith, grind arith)

abbrev Reads : ℕ → List ℕ → Type 0
Reads n ds =
    n < 4294967296 → (l : ℕ) → (pages_from (clean l) ds ≡ []) × Word l n (after (clean l) ds) × (0 < length (after (clean l) ds).told)

reads_one : (n : ℕ) → n < 10 → Reads n ((48 + n) ∷ [])
unfolding pages_from after
reads_one n few small l =
    let start : Word l 0 (clean l) = record { line_is = refl; mode_is = refl; value_is = refl } in
    let low : 48 ≤ 48 + n = omega arith in
    let high : 48 + n ≤ 57 = omega arith in
    let is : 10 * 0 + (48 + n - 48) ≡ n = omega arith in
    let none = (digit_step l 0 (clean l) start (48 + n) low high).1 in
    let more = digit_more l 0 (clean l) start (48 + n) low high (omega arith) in
    (rw none refl, subst (λ (v : ℕ). Word l v (step (clean l) (48 + n))) is more.0, more.1)

reads_more : (n : ℕ) (ds : List ℕ) → 10 ≤ n → Reads (n / 10) ds → Reads n (ds ++ ((48 + n % 10) ∷ []))
unfolding pages_from after
reads_more n ds many was small l =
    let before = was (omega arith) l in
    let s = after (clean l) ds in
    let low : 48 ≤ 48 + n % 10 = omega arith in
    let high : 48 + n % 10 ≤ 57 = omega arith in
    let is : 10 * (n / 10) + (48 + n % 10 - 48) ≡ n = omega arith in
    let none = (digit_step l (n / 10) s before.1 (48 + n % 10) low high).1 in
    let more = digit_more l (n / 10) s before.1 (48 + n % 10) low high (omega arith) in
    let then = after_append (clean l) ds ((48 + n % 10) ∷ []) in
    let pages = pages_append (clean l) ds ((48 + n % 10) ∷ []) in
    (rw (pages, before.0, none) refl, rw then (subst (λ (v : ℕ). Word l v (step s (48 + n % 10))) is more.0), rw then more.1)

pub lines_back : (pages : List ℕ) (l : ℕ) → Below 4294967296 pages → pages_from (clean l) (text_of pages ++ (10 ∷ [])) ≡ pages
unfolding pages_from text_of
lines_back [] l small = refl
lines_back (page ∷ pages) l small =
    let fits : page < 2 ^ 64 = omega (arith, small.0) in
    let reads = decimal_by_steps Reads reads_one reads_more page fits small.0 l in
    let s = after (clean l) (decimal page) in
    let rest = text_of pages ++ (10 ∷ []) in
    let ends = line_ends l page s reads.1 reads.2 in
    let next = min (l + 1) (2 ^ 64 - 1) in
    let found : pages_from s (10 ∷ rest) ≡ page ∷ pages_from (clean next) rest =
    ap (λ (o : Option ℕ). option_to_list o ++ pages_from (step s 10) rest) ends.0 ∙ ap (λ (t : State). page ∷ pages_from t rest) ends.1
    in
    ap (pages_from (clean l)) (append_assoc (decimal page) (10 ∷ text_of pages) (10 ∷ []))
    ∙ pages_append (clean l) (decimal page) (10 ∷ rest)
    ∙ ap (λ (ps : List ℕ). ps ++ pages_from s (10 ∷ rest)) reads.0
    ∙ found
    ∙ ap (λ (ps : List ℕ). page ∷ ps) (lines_back pages next small.1)

-- inside a comment
abbrev noted : ℕ → State
noted l = record { line = l; mode = Comment; told = []; value = Some 0 }

abbrev Unbroken : List ℕ → Type 0
Unbroken [] = Unit {0}
Unbroken (b ∷ bs) = (eqb b 10 ≡ false) × Unbroken bs

unbroken_append : (xs ys : List ℕ) → Unbroken xs → Unbroken ys → Unbroken (xs ++ ys)
unbroken_append [] ys h g = g
unbroken_append (x ∷ xs) ys h g = (h.0, unbroken_append xs ys h.1 g)

digit_unbroken : (n : ℕ) → n < 10 → eqb (48 + n) 10 ≡ false
digit_unbroken n few = ne_eqb (48 + n) 10 (λ (e : 48 + n ≡ 10). omega arith)

decimal_unbroken : (n : ℕ) → n < 2 ^ 64 → Unbroken (decimal n)
decimal_unbroken n fits =
    decimal_by_steps (λ (m : ℕ) (ds : List ℕ). Unbroken ds) (λ (m : ℕ) (few : m < 10). (digit_unbroken m few, tt))
    (λ (m : ℕ) (ds : List ℕ) (many : 10 ≤ m) (was : Unbroken ds).
    unbroken_append ds ((48 + m % 10) ∷ []) was (digit_unbroken (m % 10) (omega arith), tt))
    n fits

passed_over : (l : ℕ) (bs rest : List ℕ) → Unbroken bs → pages_from (noted l) (bs ++ rest) ≡ pages_from (noted l) rest
unfolding pages_from
passed_over l [] rest h = refl
passed_over l (b ∷ bs) rest h = let no = h.0 in simp no (passed_over l bs rest h.1)

abbrev note : Header → List ℕ
note h = codes " places " ++ (decimal h.capacity ++ (codes " report " ++ decimal h.reported))

note_unbroken : (h : Header) → h.capacity < 2 ^ 64 → h.reported < 2 ^ 64 → Unbroken (note h)
note_unbroken h k m =
    let end = unbroken_append (codes " report ") (decimal h.reported) (refl, (refl, (refl, (refl, (refl, (refl, (refl, (refl, tt)))))))) (decimal_unbroken h.reported m) in
    let tail = unbroken_append (decimal h.capacity) (codes " report " ++ decimal h.reported) (decimal_unbroken h.capacity k) end in
    unbroken_append (codes " places ") (decimal h.capacity ++ (codes " report " ++ decimal h.reported)) (refl, (refl, (refl, (refl, (refl, (refl, (refl, (refl, tt)))))))) tail

pub noted_back :
    (pages : List ℕ) (h : Header) → Below 4294967296 pages → h.capacity < 2 ^ 64 → h.reported < 2 ^ 64 → pages_in (header_line h ++ text_of pages) ≡ pages
unfolding pages_from
noted_back pages h small k m =
    let parts : (header_line h ++ text_of pages) ++ (10 ∷ []) ≡ 35 ∷ (note h ++ (10 ∷ (text_of pages ++ (10 ∷ [])))) = simp append_assoc in
    ap (pages_from (clean 1)) parts ∙ passed_over 1 (note h) (10 ∷ (text_of pages ++ (10 ∷ []))) (note_unbroken h k m) ∙ lines_back pages 2 small
