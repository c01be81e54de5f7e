-- The grid of what is read of, while contents are written.
use Rattle.std.specs.Prelude.{◌≡◌, ℕ, suc, ◌<◌, List, Option, Some, None}
use Rattle.gl_calculus.specs.Grid.Grid.{Addr, Range}
use Rattle.gl_calculus.specs.Formulas.Formula.{Content, Cells, content}
use Rattle.gl_flow.specs.Places.{StandsAt}
use Rattle.gl_flow.specs.Columns.{IsLast}
use Rattle.gl_flow.specs.Grid.{source, IsShaped, IsInRows}

-- the last area over an address without content, and nothing for one with content
abbrev pub IsClear : Cells → List (Option Range) → Addr → ℕ → Type 0
IsClear S boxes a n = (content S a ≡ None → IsLast boxes a n) × ((c : Content) → content S a ≡ Some c → n ≡ 0)

pub record IsCleared (S : Cells) (boxes : List (Option Range)) (rows : ℕ) (lists : List (List ℕ)) : Type 0 where
  pub shaped : IsShaped rows lists
  pub clear : (a : Addr) → IsInRows rows a → IsClear S boxes a (source lists a)

-- the first formula cells have their numbers
pub record IsFilled (S : Cells) (places : List Addr) (boxes : List (Option Range)) (rows count : ℕ) (lists : List (List ℕ)) : Type 0 where
  pub shaped : IsShaped rows lists
  pub formulas : (a : Addr) (k : ℕ) → IsInRows rows a → StandsAt places a k → k < count → source lists a ≡ suc k
  pub others : (a : Addr) → IsInRows rows a → ((k : ℕ) → StandsAt places a k → k < count → ⊥) → IsClear S boxes a (source lists a)
