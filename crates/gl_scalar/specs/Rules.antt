-- The operators taken apart as the code takes them: faults of operands, one rule on two numbers, and one order.
use Rattle.std.specs.Prelude.{◌≡◌, ℤ, ◌+ℤ◌, ◌-ℤ◌, ◌*ℤ◌, Bool, true, false, Option, Some, None}
use Rattle.std.specs.declared.cmp.Ordering.{Ordering}
use Rattle.std.specs.declared.cmp.Ordering.TheVariants.{Less, Equal, Greater}
use Rattle.gl_calculus.specs.Values.ErrKind.{ErrKind}
use Rattle.gl_calculus.specs.Formulas.Formula.{Op, Add, Sub, Mul, Div}
use Rattle.gl_calculus.specs.Values.Value.{Scalar}
use Rattle.gl_calculus.specs.Values.Operators.{exact, quotient, below, equal}

-- an operator on numbers
abbrev pub is_arithmetic : Op → Bool
is_arithmetic Add = true
is_arithmetic Sub = true
is_arithmetic Mul = true
is_arithmetic Div = true
is_arithmetic op = false

-- a fault, or else what there is without one
abbrev pub unless_fault : Option ErrKind → Scalar → Scalar
unless_fault (Some k) x = Scalar.Err k
unless_fault None x = x

-- what an operator on numbers gives at two numbers
abbrev pub calculated : Op → ℤ → ℤ → Scalar
calculated Add m n = exact (m +ℤ n)
calculated Sub m n = exact (m -ℤ n)
calculated Mul m n = exact (m *ℤ n)
calculated Div m n = quotient m n
calculated op m n = Scalar.Err ErrKind.Value

abbrev pub is_less : Option Ordering → Bool
is_less (Some Less) = true
is_less o = false

abbrev pub is_equal : Option Ordering → Bool
is_equal (Some Equal) = true
is_equal o = false

abbrev pub is_greater : Option Ordering → Bool
is_greater (Some Greater) = true
is_greater o = false

-- where one scalar stands to another, or None where they have no order
pub record Stands (o : Option Ordering) (x y : Scalar) : Type 0 where
  pub less : below x y ≡ is_less o
  pub equal : equal x y ≡ is_equal o
  pub greater : below y x ≡ is_greater o
