-- The formula cells of a sheet, by number.
use Rattle.std.specs.Prelude.{◌≡◌, ℕ, Bool, true, ◌&&◌, List, [], ◌∷◌, Some, None, slice_get, if◌then◌else◌}
use Rattle.gl_calculus.specs.Grid.Grid.{Addr, same_addr, is_before}
use Rattle.gl_calculus.specs.Forecast.{Shape}

-- the addresses increase strictly in row-major order
abbrev pub are_in_order : List Addr → Bool
are_in_order [] = true
are_in_order (a ∷ []) = true
are_in_order (a ∷ b ∷ rest) = is_before a b && are_in_order (b ∷ rest)

-- the address has this number
abbrev pub StandsAt : List Addr → Addr → ℕ → Type 0
StandsAt places a k = slice_get places k ≡ Some a

-- the shape beside an address; none of an address that isn't listed
abbrev pub shape_in : List Addr → List Shape → Addr → Shape
shape_in [] ss a = None
shape_in (p ∷ ps) [] a = None
shape_in (p ∷ ps) (s ∷ ss) a = if same_addr p a then s else shape_in ps ss a
