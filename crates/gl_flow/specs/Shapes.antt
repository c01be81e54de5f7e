-- Shapes as the code keeps them.
use Rattle.std.specs.Prelude.{ℕ, Bool, true, false, List, [], ◌∷◌, map, Option, Some, None, option_map}
use Rattle.std.specs.Rc.{rc_str_bytes}
use Rattle.std.specs.declared.rc.RcStr.{RcStr}
use Rattle.std.specs.declared.alloc.Global.{Global}
use Rattle.gl_calculus.specs.Grid.Grid.{Addr, Size}
use Rattle.gl_calculus.specs.Formulas.Formula.{Cells, content, formula_addresses}
use Rattle.gl_calculus.specs.Forecast.{Shape, Shapes, any_size, flipped, vstack_size, limited, spilled_shape, content_shape}
use Rattle.gl_flow.specs.Places.{shape_in}

-- the variables that are bound, innermost first, with their shapes
abbrev pub bindings_of : List (RcStr Global × Shape) → Shapes
bindings_of [] = []
bindings_of (b ∷ bs) = (rc_str_bytes b.0, b.1) ∷ bindings_of bs

-- the shape of `a#`: any in the first level, else that of the formula cell
abbrev pub spilled_at : Bool → List Addr → List Shape → Addr → Shape
spilled_at true ps ss a = Some any_size
spilled_at false ps ss a = shape_in ps ss a

-- rows and columns exchanged, or not
abbrev pub turned : Bool → Size → Size
turned true s = flipped s
turned false s = s

-- shapes stacked one under the other, each turned first, with extents that no array exceeds
abbrev pub stacked : Bool → List Shape → Size
stacked true ss = limited (vstack_size (map (option_map flipped) ss))
stacked false ss = limited (vstack_size ss)

-- the shape of each formula cell
abbrev pub shapes_at : Cells → ℕ → List Shape
shapes_at S n = map (spilled_shape S n) (formula_addresses S)

-- the first shape, if there is one
abbrev pub first_shape : List Shape → Option Shape
first_shape [] = None
first_shape (s ∷ ss) = Some s

-- the shape, where there is one
abbrev pub shape_of : Option Shape → Shape
shape_of None = None
shape_of (Some s) = s

-- the shapes of the formulas at these addresses, by those of `a#`
abbrev pub level_shapes : Cells → (Addr → Shape) → List Addr → List Shape
level_shapes S spilled places = map (λ a. content_shape spilled (content S a)) places
