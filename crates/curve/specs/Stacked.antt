-- What a stack stands for, and a page's place in it. Assumes nothing: these are definitions.
--     stacked s                 the pages of the stack, the one requested last first
--     Found m page stack d      page stands in the stack at place d, among the first m
use Rattle.std.specs.Prelude.{◌≡◌, ℕ, ◌<◌, true, List}
use Rattle.paging.specs.Lists.{has, place}
use Rattle.curve.specs.declared.stack.Stack.{Stack}

abbrev pub stacked : Stack → List ℕ
stacked s = s.pages.items

pub record Found (m page : ℕ) (stack : List ℕ) (d : ℕ) : Type 0 where
  pub there : has stack page ≡ true
  pub at : d ≡ place page stack
  pub below : d < m
