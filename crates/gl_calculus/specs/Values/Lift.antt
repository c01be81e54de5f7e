-- Arrays, and operators on scalars lifted to values.
use Rattle.std.specs.Prelude.{ℕ, zero, suc, ◌+◌, ◌*◌, ◌==◌, max, nat_lt, nat_le, Bool, ◌&&◌, ◌||◌}
use Rattle.std.specs.Prelude.{List, [], ◌∷◌, length, map, flat_map, get_or, take, drop}
use Rattle.std.specs.Prelude.{if◌then◌else◌}
use Rattle.std.specs.List.{range_with_len}
use Rattle.gl_calculus.specs.Grid.Limits.{max_cells}
use Rattle.gl_calculus.specs.Grid.Grid.{Size, size}
use Rattle.gl_calculus.specs.Values.ErrKind.{ErrKind}
use Rattle.gl_calculus.specs.Values.Value.{Scalar, Value, One, Array, items, scalars}

-- a scalar counts as one row and one column
abbrev pub shape : Value → Size
shape (One x) = size 1 1
shape (Array s xs) = s

-- the element at row i and column j, from 0, or else the default
abbrev pub item_or : Scalar → Value → ℕ → ℕ → Scalar
item_or d (One x) i j = if (i == 0) && (j == 0) then x else d
item_or d (Array s xs) i j =
    if nat_lt i s.rows && nat_lt j s.cols then get_or (items xs) (i * s.cols + j) d else d

-- the same, with #N/A beyond the extents
abbrev pub item : Value → ℕ → ℕ → Scalar
item = item_or (Scalar.Err ErrKind.Na)

-- the same, where an extent of 1 repeats
abbrev pub spread : Value → ℕ → ℕ → Scalar
spread v i j = item v (if (shape v).rows == 1 then 0 else i) (if (shape v).cols == 1 then 0 else j)

abbrev pub is_small : Size → Bool
is_small s = nat_le (s.rows * s.cols) max_cells

-- the array of these extents with an element for each row and column, or #SIZE! if it isn't small
abbrev pub table : Size → (ℕ → ℕ → Scalar) → Value
table s f =
    let xs = flat_map (λ i. map (f i) (range_with_len 0 s.cols)) (range_with_len 0 s.rows) in
    if is_small s then Array s (scalars xs) else One (Scalar.Err ErrKind.Size)

-- the greater extents
abbrev pub hull : Size → Size → Size
hull s t = size (max s.rows t.rows) (max s.cols t.cols)

abbrev pub lift1 : (Scalar → Scalar) → Value → Value
lift1 f (One x) = One (f x)
lift1 f v = table (shape v) (λ i j. f (item v i j))

-- row i and column j are within the extents, where an extent of 1 repeats
abbrev pub reaches : Value → ℕ → ℕ → Bool
reaches v i j =
    let s = shape v in (s.rows == 1 || nat_lt i s.rows) && (s.cols == 1 || nat_lt j s.cols)

-- an element of the result is #N/A where one of the values doesn't reach it
abbrev pub where_reached : Bool → Scalar → Scalar
where_reached b x = if b then x else Scalar.Err ErrKind.Na

abbrev pub lift2 : (Scalar → Scalar → Scalar) → Value → Value → Value
lift2 f (One x) (One y) = One (f x y)
lift2 f u v =
    table (hull (shape u) (shape v))
    (λ i j. where_reached (reaches u i j && reaches v i j) (f (spread u i j) (spread v i j)))

abbrev pub lift3 : (Scalar → Scalar → Scalar → Scalar) → Value → Value → Value → Value
lift3 f (One x) (One y) (One z) = One (f x y z)
lift3 f u v w =
    table (hull (shape u) (hull (shape v) (shape w)))
    (λ i j. where_reached (reaches u i j && reaches v i j && reaches w i j)
    (f (spread u i j) (spread v i j) (spread w i j)))

-- ---- rows

-- the list cut into n rows of m elements
abbrev pub cut : ℕ → ℕ → List Scalar → List (List Scalar)
cut zero m xs = []
cut (suc n) m xs = take m xs ∷ cut n m (drop m xs)

abbrev pub rows : Value → List (List Scalar)
rows (One x) = (x ∷ []) ∷ []
rows (Array s xs) = cut s.rows s.cols (items xs)

abbrev pub width : List (List Scalar) → ℕ
width [] = 0
width (r ∷ rs) = length r

-- the array of these rows, which are equally long, or #SIZE! if it isn't small
abbrev pub from_rows : List (List Scalar) → Value
from_rows rs =
    let s = size (length rs) (width rs) in
    if is_small s then Array s (scalars (flat_map (λ r. r) rs)) else One (Scalar.Err ErrKind.Size)
