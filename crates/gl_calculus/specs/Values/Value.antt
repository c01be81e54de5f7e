-- Values, sheet values and frames: plain trees, equal where they have the same form.
use Rattle.std.specs.Prelude.{ℕ, ℤ, List, [], ◌∷◌}
use Rattle.std.specs.Prelude as P
use Rattle.gl_calculus.specs.Grid.Grid.{Addr, Range, Size}
use Rattle.gl_calculus.specs.Values.ErrKind.{ErrKind}

pub data Permit : Type 0 where
  Permitted Refused : Permit

-- what an oracle says of a root: how large its array is, and whether it may spill
pub record Entry : Type 0 where
  pub root : Addr
  pub size : Size
  pub permit : Permit

-- the roots increase in row-major order
abbrev pub Oracle : Type 0
Oracle = List Entry

mutual
  pub data Scalar : Type 0 where
    Blank : Scalar
    Int : ℤ → Scalar
    Bool : P.Bool → Scalar
    Text : List ℕ → Scalar
    Err : ErrKind → Scalar
    Sheet : SheetValue → Scalar

  -- a list of scalars
  pub data Scalars : Type 0 where
    no_scalar : Scalars
    scalar_and : Scalar → Scalars → Scalars

  -- one scalar, or an array with its elements in row-major order
  pub data Value : Type 0 where
    One : Scalar → Value
    Array : Size → Scalars → Value

  -- a list of addresses with their values, in row-major order
  pub data Overrides : Type 0 where
    no_override : Overrides
    override_and : Addr → Value → Overrides → Overrides

  -- a region, its overrides, the frame that it was made in, its rank and its weight
  pub data SheetValue : Type 0 where
    sheet_value : (region : Range) → Overrides → (parent : Frame) → (rank weight : ℕ) → SheetValue

  -- where formulas are evaluated: the top sheet, or a copy that is settled to an oracle
  pub data Frame : Type 0 where
    Top : Frame
    In : SheetValue → Oracle → Frame

abbrev pub items : Scalars → List Scalar
items no_scalar = []
items (scalar_and x xs) = x ∷ items xs

abbrev pub scalars : List Scalar → Scalars
scalars [] = no_scalar
scalars (x ∷ xs) = scalar_and x (scalars xs)

-- the scalars of a value, in row-major order
abbrev pub elements : Value → List Scalar
elements (One x) = x ∷ []
elements (Array s xs) = items xs

abbrev pub region : SheetValue → Range
region (sheet_value r os e k w) = r

abbrev pub overrides : SheetValue → Overrides
overrides (sheet_value r os e k w) = os

abbrev pub parent : SheetValue → Frame
parent (sheet_value r os e k w) = e

abbrev pub rank : SheetValue → ℕ
rank (sheet_value r os e k w) = k
