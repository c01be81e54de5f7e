-- Where two oracles differ, as few ranges.
use Rattle.std.specs.Prelude.{◌≡◌, ◌+◌, nat_lt, Bool, true, false, ◌&&◌, List, [], ◌∷◌, ◌++◌}
use Rattle.std.specs.Prelude.{flat_map, Option, Some, None, if◌then◌else◌}
use Rattle.gl_calculus.specs.Computation.Lists.{Member}
use Rattle.gl_calculus.specs.Grid.Grid.{addr, Range, range, single, lies_in, meets, grid}
use Rattle.gl_calculus.specs.Values.Value.{Entry, Oracle}
use Rattle.gl_calculus.specs.Values.Same.{is_permitted, same_permit}
use Rattle.gl_calculus.specs.Evaluation.Oracle.{area_of, entry_at}

-- the entry is permitted, and its area exists
abbrev pub spills : Entry → Bool
spills x = is_permitted x.permit && lies_in (area_of x) grid

-- no two areas that spill meet
abbrev pub AreApart : Oracle → Type 0
AreApart w =
    (x y : Entry) → Member x w → Member y w → spills x ≡ true → spills y ≡ true →
    meets (area_of x) (area_of y) ≡ true → x.root ≡ y.root

-- what of the first range is not in the second, which has the same first corner
abbrev pub minus : Range → Range → List Range
minus a b =
    (if nat_lt b.last.row a.last.row
    then range (addr a.first.col (b.last.row + 1)) a.last ∷ [] else [])
    ++ (if nat_lt b.last.col a.last.col
    then range (addr (b.last.col + 1) a.first.row) a.last ∷ [] else [])

-- what only one of two areas with the same root covers
abbrev pub areas_apart : Bool → Bool → Range → Range → List Range
areas_apart true true a b = minus a b ++ minus b a
areas_apart true false a b = a ∷ []
areas_apart false true a b = b ∷ []
areas_apart false false a b = []

-- what an entry says that the other oracle has none of
abbrev pub own_places : Entry → List Range
own_places x = single x.root ∷ (if spills x then area_of x ∷ [] else [])

abbrev pub by_both : Entry → Entry → List Range
by_both x y =
    (if same_permit y.permit x.permit then [] else single x.root ∷ [])
    ++ areas_apart (spills x) (spills y) (area_of x) (area_of y)

abbrev pub by_entry : Entry → Option Entry → List Range
by_entry x None = own_places x
by_entry x (Some y) = by_both x y

abbrev pub by_new : Entry → Option Entry → List Range
by_new y None = own_places y
by_new y (Some x) = []

abbrev pub differences : Oracle → Oracle → List Range
differences w v =
    flat_map (λ x. by_entry x (entry_at v x.root)) w
    ++ flat_map (λ y. by_new y (entry_at w y.root)) v
