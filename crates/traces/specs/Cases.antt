-- What is said of the requests of a case.
use Rattle.std.specs.Prelude.{◌≡◌, ℕ, ◌<◌, leb, eqb, ◌||◌, Bool, true, false, List, codes, length, replicate}
use Rattle.traces.specs.Kind.{IsMade}
use Rattle.traces.specs.declared.cases.Requests.{Requests}
use Rattle.traces.specs.declared.cases.Requests.TheVariants.{Listed, Made}

-- a trace has these requests
abbrev pub Lists : Requests → List ℕ → Type 0
Lists (Listed pages) trace = trace ≡ pages.now
Lists (Made day) trace = (length trace ≡ day.requests) × (day.pages ≡ 0 → trace ≡ replicate day.requests 0) × (0 < day.pages → IsMade day.kind day.pages trace)

-- the numbers of c of m capacities are shown
abbrev pub is_shown : ℕ → ℕ → Bool
is_shown m c = leb c 4 || (eqb c 63 || (eqb c 64 || eqb c m))

-- what is said of a row whose rest is as it was, or is not, as text
abbrev pub rest_text : Bool → List ℕ
rest_text true = codes "the rest as it was"
rest_text false = codes "the rest is not as it was"
