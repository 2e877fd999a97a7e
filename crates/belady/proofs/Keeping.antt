-- A cache that Belady's rule keeps, one request further.
--     Stepped h trace i cache pages keys n     the i-th request of trace has made the first n of pages of cache
use Rattle.std.proofs.Common.{◌≡◌, ℕ, ◌+◌, ◌<◌, ◌≤◌, List, [], ◌∷◌, length, get_or, take, drop, set, sym, refl, ap, ◌∙◌, arith}
use Rattle.std.proofs.lemmas.List.{length-take-le, get_or-drop, drop-drop, at_drop_more}
use Rattle.paging.specs.Belady.{belady, belady_schedule}
use Rattle.paging.specs.Lists.{distinct, place}
use Rattle.paging.proofs.Belady.{belady_served}
use Rattle.paging.proofs.Keyed.{Keyed}
use Rattle.curve.proofs.Stacks.{stack_found}
use Rattle.belady.specs.Ahead.{next_at}
use Rattle.belady.specs.Kept.{Kept}
use Rattle.belady.proofs.Rekeyed.{keyed_found}

pub record Stepped (h : ℕ) (trace : List ℕ) (i : ℕ) (cache pages keys : List ℕ) (n : ℕ) : Type 0 where
  pub kept : Kept h trace (i + 1) pages keys n
  pub after : take n pages ≡ belady h cache (get_or trace i 0) (drop (i + 1) trace)
  pub shows : take n pages ≡ get_or (belady_schedule h [] trace) i []

pub kept_none : (h : ℕ) (trace pages keys : List ℕ) → 1 ≤ h → h ≤ 4096 → Kept h trace 0 pages keys 0
unfolding distinct
kept_none h trace pages keys low high =
    record { low = low; high = high; few = omega arith; once = refl; keyed = λ j lt. absurd (omega arith); due = refl }

-- one cache of a schedule, and the rest of it
scheduled :
    (caches : List (List ℕ)) (i : ℕ) (cache : List ℕ) (rest : List (List ℕ)) → cache ∷ rest ≡ drop i caches →
    (cache ≡ get_or caches i []) × (rest ≡ drop (i + 1) caches)
scheduled caches i cache rest e =
    let z : i + 0 ≡ i = omega arith in
    let at = get_or-drop i caches 0 [] in
    (ap (λ (xs : List (List ℕ)). get_or xs 0 []) e ∙ rw z at at, ap (λ (xs : List (List ℕ)). drop 1 xs) e ∙ drop-drop 1 i caches)

module _
    (h : ℕ) (trace : List ℕ) (i : ℕ) (pages keys : List ℕ) (n : ℕ) (kept : Kept h trace i pages keys n) (lt : i < length trace)
    (in-pages : h ≤ length pages)
  where
    -- however they are written, the pages are the rule's
    pub stepped :
        (next-pages next_keys : List ℕ) (m : ℕ) → m ≤ h →
        take m next-pages ≡ belady h (take n pages) (get_or trace i 0) (drop (i + 1) trace) → Keyed trace (i + 1) next-pages next_keys m →
        Stepped h trace i (take n pages) next-pages next_keys m
    unfolding belady_schedule
    stepped next-pages next_keys m fits is keyed =
        let cache = take n pages in
        let page = get_or trace i 0 in
        let coming = drop (i + 1) trace in
        let low = kept.low in
        let few = kept.few in
        let len = length-take-le n pages (omega arith) in
        let served = belady_served h cache page coming (omega arith) kept.once (omega arith) in
        let step : belady_schedule h cache (drop i trace) ≡ belady h cache page coming ∷ belady_schedule h (belady h cache page coming) coming =
        at_drop_more (belady_schedule h cache) trace i 0 lt in
        let now = scheduled (belady_schedule h [] trace) i _ _ (sym step ∙ kept.due) in
        record {
          kept = record { low = low; high = kept.high; few = fits; once = rw is served.once; keyed = keyed; due = rw is now.1 };
          after = is;
          shows = is ∙ now.0;
        }

    -- the page was there: all pages stay
    pub stepped_found :
        (next : ℕ) → next ≡ next_at trace i → h ≤ length keys → (at : ℕ) → at ≡ place (get_or trace i 0) (take n pages) → at < n →
        Stepped h trace i (take n pages) pages (set keys at next) n
    unfolding belady
    stepped_found next is-next in-keys at is below =
        let few = kept.few in
        let there = stack_found (get_or trace i 0) pages n (omega arith) at is below in
        let keyed = keyed_found trace i pages keys n kept.keyed lt next is-next at is below kept.once (omega arith) (omega arith) in
        stepped pages (set keys at next) n few (rw there refl) keyed
