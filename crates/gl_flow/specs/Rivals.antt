-- The earlier formula cells whose areas meet one, by blocks.
use Rattle.std.specs.Prelude.{ℕ, ◌-◌, ◌/◌, ◌≤◌, Bool, List, filter, get_or, Option, Some, None}
use Rattle.std.specs.List.{list_any, range_with_len}
use Rattle.std.specs.Option.{option_to_list}
use Rattle.gl_calculus.specs.Grid.Grid.{Range, meets}
use Rattle.gl_flow.specs.Columns.{BoxAt}

-- the formula cell of this number has an area that meets this one
abbrev pub meets_box : List (Option Range) → Range → ℕ → Bool
meets_box boxes r j = list_any (meets r) (option_to_list (get_or boxes j None))

-- those from a number on, up to another one
abbrev pub rivals_from : List (Option Range) → Range → ℕ → ℕ → List ℕ
rivals_from boxes r k i = filter (meets_box boxes r) (range_with_len i (k - i))

-- the last row of an area, or 0
abbrev pub bottom_row : Option Range → ℕ
bottom_row None = 0
bottom_row (Some b) = b.last.row

-- no area of a block of 64 ends below the row that is kept for it
abbrev pub AreBottoms : List (Option Range) → List ℕ → Type 0
AreBottoms boxes bottoms = (j : ℕ) (b : Range) → BoxAt boxes j b → b.last.row ≤ get_or bottoms (j / 64) 0
