-- Equality of formulas by structure, as a test of their trees.
use Rattle.std.specs.Prelude.{◌==◌, ℕ, Bool, true, false, ◌&&◌, bytes_eq}
use Rattle.gl_calculus.specs.Grid.Grid.{same_addr, same_range}
use Rattle.gl_calculus.specs.Values.Same.{same_int, same_bool}
use Rattle.gl_calculus.specs.Formulas.Formula.{Op, Level, Fun, Formula, Formulas, no_formula, formula_and, Operands, no_operand, operand_and}

-- the places of operators, levels and functions in their lists
abbrev pub op_place : Op → ℕ
op_place Op.Eq = 0
op_place Op.Ne = 1
op_place Op.Lt = 2
op_place Op.Le = 3
op_place Op.Gt = 4
op_place Op.Ge = 5
op_place Op.Join = 6
op_place Op.Add = 7
op_place Op.Sub = 8
op_place Op.Mul = 9
op_place Op.Div = 10

abbrev pub level_place : Level → ℕ
level_place Level.Cat = 0
level_place Level.Sum = 1
level_place Level.Prod = 2

abbrev pub fun_place : Fun → ℕ
fun_place Fun.Sum = 0
fun_place Fun.Count = 1
fun_place Fun.Min = 2
fun_place Fun.Max = 3
fun_place Fun.And = 4
fun_place Fun.Or = 5
fun_place Fun.Not = 6
fun_place Fun.If = 7
fun_place Fun.IfError = 8
fun_place Fun.IsError = 9
fun_place Fun.IsBlank = 10
fun_place Fun.Abs = 11
fun_place Fun.Mod = 12
fun_place Fun.Len = 13
fun_place Fun.Left = 14
fun_place Fun.Right = 15
fun_place Fun.Rows = 16
fun_place Fun.Columns = 17
fun_place Fun.Index = 18
fun_place Fun.Sequence = 19
fun_place Fun.Transpose = 20
fun_place Fun.Take = 21
fun_place Fun.Drop = 22
fun_place Fun.HStack = 23
fun_place Fun.VStack = 24
fun_place Fun.Filter = 25
fun_place Fun.Unique = 26
fun_place Fun.Lookup = 27
fun_place Fun.Na = 28
fun_place Fun.Sheet = 29
fun_place Fun.Update = 30
fun_place Fun.View = 31
fun_place Fun.G = 32
fun_place Fun.This = 33

abbrev pub same_op : Op → Op → Bool
same_op o p = op_place o == op_place p

abbrev pub same_level : Level → Level → Bool
same_level l m = level_place l == level_place m

abbrev pub same_fun : Fun → Fun → Bool
same_fun f g = fun_place f == fun_place g

abbrev mutual
  pub same_formula : Formula → Formula → Bool
  same_formula (Formula.Int m) (Formula.Int n) = same_int m n
  same_formula (Formula.Text s) (Formula.Text t) = bytes_eq s t
  same_formula (Formula.Bool b) (Formula.Bool c) = same_bool b c
  same_formula (Formula.At a) (Formula.At b) = same_addr a b
  same_formula (Formula.Spill a) (Formula.Spill b) = same_addr a b
  same_formula (Formula.Area r) (Formula.Area s) = same_range r s
  same_formula (Formula.Var s) (Formula.Var t) = bytes_eq s t
  same_formula (Formula.Neg f) (Formula.Neg g) = same_formula f g
  same_formula (Formula.Chain l f os) (Formula.Chain m g ps) = same_level l m && (same_formula f g && same_operands os ps)
  same_formula (Formula.Compare o f a) (Formula.Compare p g b) = same_op o p && (same_formula f g && same_formula a b)
  same_formula (Formula.Call f xs) (Formula.Call g ys) = same_fun f g && same_formulas xs ys
  same_formula (Formula.Let s f a) (Formula.Let t g b) = bytes_eq s t && (same_formula f g && same_formula a b)
  same_formula f g = false

  pub same_formulas : Formulas → Formulas → Bool
  same_formulas no_formula no_formula = true
  same_formulas (formula_and x xs) (formula_and y ys) = same_formula x y && same_formulas xs ys
  same_formulas xs ys = false

  pub same_operands : Operands → Operands → Bool
  same_operands no_operand no_operand = true
  same_operands (operand_and o f os) (operand_and p g ps) = (same_op o p && same_formula f g) && same_operands os ps
  same_operands os ps = false
