-- The last of the areas over each address of a column.
use Rattle.std.specs.Prelude.{◌≡◌, ℕ, suc, ◌-◌, ◌<◌, ◌≤◌, nat_lt, nat_le, Bool, true, false, ◌&&◌, List, [], ◌∷◌, length, get_or, Option, Some, None, slice_get, if◌then◌else◌}
use Rattle.gl_calculus.specs.Computation.Lists.{Member}
use Rattle.gl_calculus.specs.Grid.Grid.{Addr, addr, Range, covers}
use Rattle.gl_graph.specs.Search.{Rises}
use Rattle.gl_flow.specs.Places.{StandsAt}

-- one more than the greatest number with the property, or 0 where none has it
pub data IsGreatest (P : ℕ → Type 0) : ℕ → Type 0 where
  none : ((k : ℕ) → P k → ⊥) → IsGreatest P 0
  some : {k : ℕ} → P k → ((j : ℕ) → P j → j ≤ k) → IsGreatest P (suc k)

-- the formula cell of this number has this area
abbrev pub BoxAt : List (Option Range) → ℕ → Range → Type 0
BoxAt boxes k b = slice_get boxes k ≡ Some (Some b)

-- each area begins at its formula cell
pub record AreRooted (places : List Addr) (boxes : List (Option Range)) : Type 0 where
  pub roots : (k : ℕ) (b : Range) → BoxAt boxes k b → StandsAt places b.first k
  pub same : length boxes ≡ length places

abbrev pub CoversAt : List (Option Range) → Addr → ℕ → Type 0
CoversAt boxes a k = (b : Range) × BoxAt boxes k b × (covers b a ≡ true)

-- one more than the number of the last area over an address, or 0
abbrev pub IsLast : List (Option Range) → Addr → ℕ → Type 0
IsLast boxes a n = IsGreatest (CoversAt boxes a) n

-- so many rows of a column, from the first on
pub record IsColumn (boxes : List (Option Range)) (column rows : ℕ) (numbers : List ℕ) : Type 0 where
  pub size : length numbers ≡ rows
  pub last : (row : ℕ) → 1 ≤ row → row ≤ rows → IsLast boxes (addr column row) (get_or numbers (row - 1) 0)

-- ---- the areas over a row, while the rows are passed downwards

abbrev pub in_column : Range → ℕ → Bool
in_column b column = nat_le b.first.col column && nat_le column b.last.col

-- the area ends above the row, or there is none
abbrev pub has_ended : ℕ → Option (Option Range) → Bool
has_ended row (Some (Some b)) = nat_lt b.last.row row
has_ended row (Some None) = true
has_ended row None = true

-- one of the first areas lies over the column
pub record IsOver (boxes : List (Option Range)) (column next k : ℕ) : Type 0 where
  pub box : Range
  pub at : BoxAt boxes k box
  pub early : k < next
  pub within : in_column box column ≡ true

-- and doesn't end above the row
abbrev pub IsDown : List (Option Range) → ℕ → ℕ → ℕ → ℕ → Type 0
IsDown boxes column row next k = (o : IsOver boxes column next k) × (row ≤ o.box.last.row)

-- all of those rise in the stack, perhaps with others that end above
pub record IsStack (boxes : List (Option Range)) (column row next : ℕ) (stack : List ℕ) : Type 0 where
  pub rises : Rises stack
  pub from : (k : ℕ) → Member k stack → IsOver boxes column next k
  pub all : (k : ℕ) → IsDown boxes column row next k → Member k stack

-- what the formula cell of this number adds to the stack
abbrev pub new_over : ℕ → ℕ → Option (Option Range) → List ℕ
new_over column k (Some (Some b)) = if in_column b column then k ∷ [] else []
new_over column k (Some None) = []
new_over column k None = []

-- only so many formula cells stand above the row
pub record AreAbove (places : List Addr) (row next : ℕ) : Type 0 where
  pub few : next ≤ length places
  pub above : (k : ℕ) (a : Addr) → StandsAt places a k → k < next → a.row < row

abbrev pub AreBelow : List Addr → ℕ → ℕ → Type 0
AreBelow places row next = (k : ℕ) (a : Addr) → StandsAt places a k → next ≤ k → row < a.row

-- the address stands in the row or above
abbrev pub is_in_row : ℕ → Option Addr → Bool
is_in_row row None = false
is_in_row row (Some a) = nat_le a.row row

-- one more than a number, or 0
abbrev pub one_more : Option ℕ → ℕ
one_more None = 0
one_more (Some k) = suc k
