-- Places, rows and columns of a value.
use Rattle.std.specs.Prelude.{◌≡◌, ℕ, suc, ◌+◌, ◌-◌, ◌*◌, min, ℤ, pos, negsuc, nat_lt, Bool, ◌&&◌, Ok, Err, Result, IfOk, Option, None, Some, slice_get, List, map}
use Rattle.std.specs.List.{range_with_len}
use Rattle.gl_calculus.specs.Values.ErrKind.{ErrKind}
use Rattle.gl_calculus.specs.Values.Value.{Scalar, Int, Value}
use Rattle.gl_calculus.specs.Values.Lift.{item, shape}
use Rattle.gl_calculus.specs.Values.Functions.{Try, when, is_column_beside, keeps, part_of, value_or_error, kept, left_over}
use Rattle.gl_plane.specs.declared.NoMemory.{NoMemory}
use Rattle.gl_value.specs.View.{value_tree}
use Rattle.gl_value.specs.declared.Value as Code
use Rattle.gl_arrays.specs.declared.parts.Part.{Part}
use Rattle.gl_arrays.specs.declared.parts.Part.TheVariants.{Kept, LeftOver}

-- a place within the extent
abbrev pub within : ℕ → Try ℕ → Try ℕ
within extent (Ok i) = when (nat_lt i extent) ErrKind.Ref i
within extent (Err k) = Err k

-- the elements of the first column from a row on, so many of them
abbrev pub column_from : Value → ℕ → ℕ → List Scalar
column_from v i n = map (λ k. item v k 0) (range_with_len i n)

-- each is one column with as many rows as the other
abbrev pub are_columns : Value → Value → Bool
are_columns u v = is_column_beside u v && is_column_beside v u

-- the elements of a row
abbrev pub row : Value → ℕ → List Scalar
row v i = map (item v i) (range_with_len 0 (shape v).cols)

-- the number at a place of so many columns, counted from 1 in row-major order
abbrev pub numbered : ℕ → ℕ → ℕ → Scalar
numbered cols i j = Int (pos (i * cols + j + 1))

-- the first of the rows or columns that TAKE keeps of so many, and how many it keeps
abbrev pub kept_start : ℤ → ℕ → ℕ
kept_start (pos n) extent = 0
kept_start (negsuc n) extent = extent - suc n

abbrev pub kept_count : ℤ → ℕ → ℕ
kept_count (pos n) extent = min n extent
kept_count (negsuc n) extent = min (suc n) extent

-- the first of the rows or columns that DROP leaves of so many, and how many it leaves
abbrev pub left_start : ℤ → ℕ → ℕ
left_start (pos n) extent = min n extent
left_start (negsuc n) extent = 0

abbrev pub left_count : ℤ → ℕ → ℕ
left_count (pos n) extent = extent - n
left_count (negsuc n) extent = extent - suc n

-- the same of either
abbrev pub start_of : Part → ℤ → ℕ → ℕ
start_of Kept n extent = kept_start n extent
start_of LeftOver n extent = left_start n extent

abbrev pub count_of : Part → ℤ → ℕ → ℕ
count_of Kept n extent = kept_count n extent
count_of LeftOver n extent = left_count n extent

abbrev pub rule_of : {X : Type 0} → Part → ℤ → List X → List X
rule_of Kept n xs = kept n xs
rule_of LeftOver n xs = left_over n xs

-- the answer is a part of the rows of the value, and of each of them a part, by two numbers
abbrev pub IsPart : Result Code.Value NoMemory → (ℤ → List (List Scalar) → List (List Scalar)) → (ℤ → List Scalar → List Scalar) → Code.Value → Code.Value → Code.Value → Type 0
IsPart r some_of part v m n = IfOk r (λ w. value_tree w ≡ value_or_error (part_of some_of part (value_tree v) (value_tree m) (value_tree n)))

-- m rows from row a on of n columns from column b on
abbrev pub window : Value → ℕ → ℕ → ℕ → ℕ → List (List Scalar)
window v a m b n = map (λ i. map (λ j. item v (a + i) (b + j)) (range_with_len 0 n)) (range_with_len 0 m)

-- the row is kept: its first element is TRUE
abbrev pub keeps_row : Value → ℕ → Bool
keeps_row v i = keeps (item v i 0)

-- the element in a column of the row, if there is one
abbrev pub element_of : Value → Option ℕ → ℕ → Scalar
element_of v None j = Scalar.Err ErrKind.Na
element_of v (Some i) j = item v i j

-- the element in a column of the row that is listed at a place
abbrev pub picked : Value → List ℕ → ℕ → ℕ → Scalar
picked v is i j = element_of v (slice_get is i) j
