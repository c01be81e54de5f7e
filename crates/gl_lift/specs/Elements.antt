-- The element of a value at a row and a column, if there is one.
use Rattle.std.specs.Prelude.{ℕ, ◌&&◌, ◌==◌, nat_lt, Option, Some, None, if◌then◌else◌}
use Rattle.gl_calculus.specs.Values.Value.{Scalar, Value}
use Rattle.gl_calculus.specs.Values.Lift.{shape, item, reaches, spread, where_reached}

-- within the extents
abbrev pub present : Value → ℕ → ℕ → Option Scalar
present v i j = if nat_lt i (shape v).rows && nat_lt j (shape v).cols then Some (item v i j) else None

-- where an extent of 1 repeats
abbrev pub reached : Value → ℕ → ℕ → Option Scalar
reached v i j = if reaches v i j then Some (spread v i j) else None

-- the row or column that stands for this one
abbrev pub place : ℕ → ℕ → ℕ
place i extent = if extent == 1 then 0 else i

-- what a rule gives at the elements of two values, and of three
abbrev pub paired : (Scalar → Scalar → Scalar) → Value → Value → ℕ → ℕ → Scalar
paired rule u v i j = where_reached (reaches u i j && reaches v i j) (rule (spread u i j) (spread v i j))

abbrev pub tripled : (Scalar → Scalar → Scalar → Scalar) → Value → Value → Value → ℕ → ℕ → Scalar
tripled rule u v w i j = where_reached (reaches u i j && reaches v i j && reaches w i j) (rule (spread u i j) (spread v i j) (spread w i j))
