-- Tables and arrays of rows by the answer to whether they are small.
use Rattle.std.proofs.Common.{ℕ, Bool, List, length, map, if◌then◌else◌}
use Rattle.std.specs.List.{flat_map, range_with_len}
use Rattle.gl_calculus.specs.Grid.Grid.{Size, size}
use Rattle.gl_calculus.specs.Values.ErrKind.{ErrKind}
use Rattle.gl_calculus.specs.Values.Value.{Scalar, Value, One, Array, scalars}
use Rattle.gl_calculus.specs.Values.Lift.{width}

abbrev pub table_if : Bool → Size → (ℕ → ℕ → Scalar) → Value
table_if b s f = if b then Array s (scalars (flat_map (λ i. map (f i) (range_with_len 0 s.cols)) (range_with_len 0 s.rows))) else One (Scalar.Err ErrKind.Size)

abbrev pub rows_if : Bool → List (List Scalar) → Value
rows_if b rs = if b then Array (size (length rs) (width rs)) (scalars (flat_map (λ r. r) rs)) else One (Scalar.Err ErrKind.Size)
