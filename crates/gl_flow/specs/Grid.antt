-- What each address that is read reads of.
use Rattle.std.specs.Prelude.{◌≡◌, ℕ, suc, ◌-◌, ◌<◌, ◌≤◌, List, [], map, length, get_or, set, Option, Some, None}
use Rattle.std.specs.declared.vec.Vec.{Vec}
use Rattle.std.specs.declared.alloc.Global.{Global}
use Rattle.gl_calculus.specs.Grid.Limits.{grid_cols}
use Rattle.gl_calculus.specs.Grid.Grid.{Addr, Range}
use Rattle.gl_calculus.specs.Formulas.Formula.{Cells, content, Const}
use Rattle.gl_calculus.specs.Values.Value.{Scalar}
use Rattle.gl_flow.specs.Places.{StandsAt}
use Rattle.gl_flow.specs.Columns.{IsLast, IsColumn}

-- the numbers of each column
abbrev pub number_lists : List (Vec ℕ Global) → List (List ℕ)
number_lists columns = map (λ (v : Vec ℕ Global). v.items) columns

-- that of an address
abbrev pub source : List (List ℕ) → Addr → ℕ
source lists a = get_or (get_or lists (a.col - 1) []) (a.row - 1) 0

-- another one at an address
abbrev pub written_at : List (List ℕ) → Addr → ℕ → List (List ℕ)
written_at lists a n = set lists (a.col - 1) (set (get_or lists (a.col - 1) []) (a.row - 1) n)

-- so many rows of each column
pub record IsShaped (rows : ℕ) (lists : List (List ℕ)) : Type 0 where
  pub cols : length lists ≡ grid_cols
  pub each : (c : ℕ) → c < grid_cols → length (get_or lists c []) ≡ rows

-- the address is in these rows of the grid
pub record IsInRows (rows : ℕ) (a : Addr) : Type 0 where
  pub top : 1 ≤ a.row
  pub bottom : a.row ≤ rows
  pub left : 1 ≤ a.col
  pub right : a.col ≤ grid_cols

-- the last areas over the addresses of the first columns
pub record AreColumns (boxes : List (Option Range)) (rows count : ℕ) (lists : List (List ℕ)) : Type 0 where
  pub size : length lists ≡ count
  pub each : (c : ℕ) → 1 ≤ c → c ≤ count → IsColumn boxes c rows (get_or lists (c - 1) [])

-- what an address reads of: the formula there, nothing of a constant, and without content the last
-- formula cell whose area lies over it
pub data IsSource (S : Cells) (places : List Addr) (boxes : List (Option Range)) (a : Addr) : ℕ → Type 0 where
  formula : {k : ℕ} → StandsAt places a k → IsSource S places boxes a (suc k)
  constant : {x : Scalar} → content S a ≡ Some (Const x) → IsSource S places boxes a 0
  blank : {n : ℕ} → content S a ≡ None → IsLast boxes a n → IsSource S places boxes a n

-- the same for each address of these rows
abbrev pub AreSources : Cells → List Addr → List (Option Range) → ℕ → List (List ℕ) → Type 0
AreSources S places boxes rows lists = (a : Addr) → IsInRows rows a → IsSource S places boxes a (source lists a)
