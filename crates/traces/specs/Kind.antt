-- What is said of traces of several kinds.
use Rattle.std.specs.Prelude.{◌≡◌, ℕ, zero, suc, ◌+◌, ◌/◌, ◌%◌, ◌^◌, ◌<◌, List, codes, length, slice_index}
use Rattle.traces.specs.Random.{after_steps}
use Rattle.traces.specs.declared.kind.Kind.{Kind}
use Rattle.traces.specs.declared.kind.Kind.TheVariants.{AnyPage, NearTheLast, InTurn}

-- the name of a kind, as text
abbrev pub name : Kind → List ℕ
name AnyPage = codes "any page"
name NearTheLast = codes "near the last"
name InTurn = codes "in turn"

-- number k of the generator that makes the traces over so many pages
abbrev pub number : ℕ → ℕ → ℕ
number pages k = (after_steps (k + 1) (record { state = pages; increment = 1442695040888963407 })).state / 2 ^ 33

-- the page after the last one, of so many pages, where the generator gives this number: any, at most six on in a circle, or the next
abbrev pub next_page : Kind → ℕ → ℕ → ℕ → ℕ
next_page AnyPage pages last drawn = drawn % pages
next_page NearTheLast pages last drawn = (last + drawn % 7) % 2 ^ 64 % pages
next_page InTurn pages last drawn = (last + 1) % pages

-- the page of request n, from 1 on; a trace goes on from page 0
unfoldable pub page_of : Kind → ℕ → ℕ → ℕ
page_of kind pages zero = 0
page_of kind pages (suc n) = next_page kind pages (page_of kind pages n) (number pages n)

-- a trace is of a kind, over so many pages
abbrev pub IsMade : Kind → ℕ → List ℕ → Type 0
IsMade kind pages trace = (k : ℕ) → k < length trace → slice_index trace k ≡ page_of kind pages (k + 1)
