-- How sheet values are made: overrides, rank and weight, SHEET and UPDATE.
use Rattle.std.specs.Prelude.{ℕ, ◌+◌, max, nat_lt, List, [], ◌∷◌, length, Option, Some, None}
use Rattle.std.specs.Prelude.{if◌then◌else◌}
use Rattle.gl_calculus.specs.Grid.Grid.{Addr, same_addr, is_before, Range, covers}
use Rattle.gl_calculus.specs.Grid.Limits.{max_rank, max_weight}
use Rattle.gl_calculus.specs.Values.Value.{Scalar, Scalars, no_scalar, scalar_and, Value, One}
use Rattle.gl_calculus.specs.Values.Value.{Array, elements, Overrides, no_override, override_and}
use Rattle.gl_calculus.specs.Values.Value.{SheetValue, sheet_value, region, overrides, parent, rank}
use Rattle.gl_calculus.specs.Values.Value.{Frame, Top, In}

abbrev pub override_at : Overrides → Addr → Option Value
override_at no_override a = None
override_at (override_and b v os) a = if same_addr a b then Some v else override_at os a

-- the overrides with this one set
abbrev pub with_override : Addr → Value → Overrides → Overrides
with_override a v no_override = override_and a v no_override
with_override a v (override_and b u os) =
    if same_addr a b then override_and a v os
    else if is_before a b then override_and a v (override_and b u os)
    else override_and b u (with_override a v os)

-- ---- rank and weight

abbrev pub frame_rank : Frame → ℕ
frame_rank Top = 0
frame_rank (In s o) = rank s

-- one above the rank of each sheet value among the scalars, or 0
abbrev pub rank_above : List Scalar → ℕ
rank_above [] = 0
rank_above (Scalar.Sheet s ∷ xs) = max (rank s + 1) (rank_above xs)
rank_above (x ∷ xs) = rank_above xs

abbrev mutual
  pub scalar_weight : Scalar → ℕ
  scalar_weight (Scalar.Sheet s) = weight s
  scalar_weight x = 1

  pub scalars_weight : Scalars → ℕ
  scalars_weight no_scalar = 0
  scalars_weight (scalar_and x xs) = scalar_weight x + scalars_weight xs

  pub value_weight : Value → ℕ
  value_weight (One x) = scalar_weight x
  value_weight (Array s xs) = scalars_weight xs

  pub overrides_weight : Overrides → ℕ
  overrides_weight no_override = 0
  overrides_weight (override_and a v os) = value_weight v + overrides_weight os

  pub weight : SheetValue → ℕ
  weight (sheet_value r os e k w) = 1 + overrides_weight os + frame_weight e

  pub frame_weight : Frame → ℕ
  frame_weight Top = 0
  frame_weight (In s o) = weight s + length o

-- ---- SHEET and UPDATE

pub data Made : Type 0 where
  Sheet : SheetValue → Made
  Outside Deep Heavy : Made

-- a sheet value above the limits isn't made: first the rank, then the weight
abbrev pub within_limits : SheetValue → Made
within_limits s =
    if nat_lt max_rank (rank s) then Deep
    else if nat_lt max_weight (weight s) then Heavy else Sheet s

-- the sheet value of these parts, with its weight
abbrev pub weighed : Range → Overrides → Frame → ℕ → SheetValue
weighed r os e k = sheet_value r os e k (1 + overrides_weight os + frame_weight e)

abbrev pub sheet : Frame → Range → Made
sheet e r = within_limits (weighed r no_override e (frame_rank e + 1))

abbrev pub update : Frame → SheetValue → Addr → Value → Made
update e s a v =
    if covers (region s) a
    then within_limits (weighed (region s) (with_override a v (overrides s)) (parent s)
    (max (rank s) (max (frame_rank e + 1) (rank_above (elements v)))))
    else Outside
