-- How a list of entries grows, one array after another.
use Rattle.std.specs.Prelude.{Bool, ◌||◌, not, List, [], ◌∷◌, if◌then◌else◌}
use Rattle.gl_calculus.specs.Grid.Grid.{Addr, Size, Range, area, lies_in, grid}
use Rattle.gl_calculus.specs.Values.Value.{Permitted, Refused, Entry, Oracle}
use Rattle.gl_calculus.specs.Values.Same.{is_permitted}
use Rattle.gl_calculus.specs.Evaluation.Oracle.{area_of, is_free}

-- the areas of the permitted entries, beside areas already taken, the latest first
abbrev pub taken_beside : List Range → Oracle → List Range
taken_beside taken [] = taken
taken_beside taken (x ∷ xs) = taken_beside (if is_permitted x.permit then area_of x ∷ taken else taken) xs

abbrev pub taken_by : Oracle → List Range
taken_by w = taken_beside [] w

-- the entry of an array behind these entries
abbrev pub entry_behind : Range → (Addr → Bool) → Oracle → Addr × Size → Entry
entry_behind bound held w x =
    record { root = x.0; size = x.1; permit = if is_free bound held (taken_by w) x.0 (area x.0 x.1) then Permitted else Refused }

-- the entry is refused, or its area exists
abbrev pub fits_grid : Entry → Bool
fits_grid x = not (is_permitted x.permit) || lies_in (area_of x) grid
