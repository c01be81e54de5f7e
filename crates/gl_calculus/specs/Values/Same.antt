-- Equality by structure, as a test.
use Rattle.std.specs.Prelude.{◌==◌, ℤ, pos, negsuc, Bool, true, false, ◌&&◌, not, bytes_eq}
use Rattle.gl_calculus.specs.Grid.Grid.{same_addr, same_range, same_size}
use Rattle.gl_calculus.specs.Values.ErrKind.{ErrKind}
use Rattle.gl_calculus.specs.Values.Value.{Permit, Permitted, Refused, Entry, Oracle, Scalar}
use Rattle.gl_calculus.specs.Values.Value.{Scalars, no_scalar, scalar_and, Value, One, Array}
use Rattle.gl_calculus.specs.Values.Value.{Overrides, no_override, override_and, SheetValue}
use Rattle.gl_calculus.specs.Values.Value.{sheet_value, Frame, Top, In}
use lib.Pointwise.{pointwise}

abbrev pub same_int : ℤ → ℤ → Bool
same_int (pos m) (pos n) = m == n
same_int (negsuc m) (negsuc n) = m == n
same_int x y = false

abbrev pub same_bool : Bool → Bool → Bool
same_bool true c = c
same_bool false c = not c

abbrev pub same_error : ErrKind → ErrKind → Bool
same_error ErrKind.Ref ErrKind.Ref = true
same_error ErrKind.Value ErrKind.Value = true
same_error ErrKind.Div0 ErrKind.Div0 = true
same_error ErrKind.Num ErrKind.Num = true
same_error ErrKind.Na ErrKind.Na = true
same_error ErrKind.Spill ErrKind.Spill = true
same_error ErrKind.Size ErrKind.Size = true
same_error j k = false

abbrev pub is_permitted : Permit → Bool
is_permitted Permitted = true
is_permitted Refused = false

abbrev pub same_permit : Permit → Permit → Bool
same_permit p q = same_bool (is_permitted p) (is_permitted q)

abbrev pub same_entry : Entry → Entry → Bool
same_entry x y = same_addr x.root y.root && same_size x.size y.size && same_permit x.permit y.permit

abbrev pub same_oracle : Oracle → Oracle → Bool
same_oracle = pointwise same_entry

abbrev mutual
  pub same_scalar : Scalar → Scalar → Bool
  same_scalar Scalar.Blank Scalar.Blank = true
  same_scalar (Scalar.Int m) (Scalar.Int n) = same_int m n
  same_scalar (Scalar.Bool b) (Scalar.Bool c) = same_bool b c
  same_scalar (Scalar.Text s) (Scalar.Text t) = bytes_eq s t
  same_scalar (Scalar.Err j) (Scalar.Err k) = same_error j k
  same_scalar (Scalar.Sheet s) (Scalar.Sheet t) = same_sheet s t
  same_scalar x y = false

  pub same_scalars : Scalars → Scalars → Bool
  same_scalars no_scalar no_scalar = true
  same_scalars (scalar_and x xs) (scalar_and y ys) = same_scalar x y && same_scalars xs ys
  same_scalars xs ys = false

  pub same_value : Value → Value → Bool
  same_value (One x) (One y) = same_scalar x y
  same_value (Array s xs) (Array t ys) = same_size s t && same_scalars xs ys
  same_value u v = false

  pub same_overrides : Overrides → Overrides → Bool
  same_overrides no_override no_override = true
  same_overrides (override_and a u os) (override_and b v ps) =
      same_addr a b && same_value u v && same_overrides os ps
  same_overrides os ps = false

  pub same_sheet : SheetValue → SheetValue → Bool
  same_sheet (sheet_value r os e j v) (sheet_value s ps f k w) =
      same_range r s && same_overrides os ps && same_frame e f && (j == k) && (v == w)

  pub same_frame : Frame → Frame → Bool
  same_frame Top Top = true
  same_frame (In s o) (In t p) = same_sheet s t && same_oracle o p
  same_frame e f = false
