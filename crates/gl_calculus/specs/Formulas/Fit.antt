-- What a sheet's contents keep, so that the values of its formulas are sound.
use Rattle.std.specs.Prelude.{nat_le, length, ℕ, suc, Bool, true, false, not, ◌&&◌, ◌||◌, IsTrue}
use Rattle.std.specs.List.{AllByRecursion}
use Rattle.std.specs.Str.{is_utf8}
use Rattle.gl_calculus.specs.Grid.Limits.{max_text, max_arguments}
use Rattle.gl_calculus.specs.Grid.Grid.{extents}
use Rattle.gl_calculus.specs.Formulas.Formula.{Formula, Formulas, Operands, Fun, Content, Const}
use Rattle.gl_calculus.specs.Formulas.Formula.{Form, Cells}
use Rattle.gl_calculus.specs.Formulas.Formula as F
use Rattle.gl_calculus.specs.Evaluation.Sound.{is_size, is_sound_scalar}

-- how many these are
abbrev pub number_of : Formulas → ℕ
number_of F.Formulas.no_formula = 0
number_of (F.Formulas.formula_and f fs) = suc (number_of fs)

-- the functions of any number of arguments
abbrev pub takes_any : Fun → Bool
takes_any F.Fun.Sum = true
takes_any F.Fun.Count = true
takes_any F.Fun.Min = true
takes_any F.Fun.Max = true
takes_any F.Fun.And = true
takes_any F.Fun.Or = true
takes_any F.Fun.HStack = true
takes_any F.Fun.VStack = true
takes_any f = false

-- of any number of arguments there are at most 16, and a stack is of one array or more
abbrev pub takes : Fun → Formulas → Bool
takes F.Fun.HStack F.Formulas.no_formula = false
takes F.Fun.VStack F.Formulas.no_formula = false
takes f xs = not (takes_any f) || nat_le (number_of xs) max_arguments

-- its texts are UTF-8 and short, its ranges have the extents of arrays, and its calls have as
-- many arguments as their functions take
abbrev mutual
  pub is_fit : Formula → Bool
  is_fit (F.Formula.Int n) = true
  is_fit (F.Formula.Text t) = is_utf8 t && nat_le (length t) max_text
  is_fit (F.Formula.Bool b) = true
  is_fit (F.Formula.At a) = true
  is_fit (F.Formula.Spill a) = true
  is_fit (F.Formula.Area r) = is_size (extents r)
  is_fit (F.Formula.Var name) = true
  is_fit (F.Formula.Neg f) = is_fit f
  is_fit (F.Formula.Chain level f rest) = is_fit f && are_fit_operands rest
  is_fit (F.Formula.Compare op f g) = is_fit f && is_fit g
  is_fit (F.Formula.Call f xs) = takes f xs && are_fit xs
  is_fit (F.Formula.Let name f body) = is_fit f && is_fit body

  pub are_fit_operands : Operands → Bool
  are_fit_operands F.Operands.no_operand = true
  are_fit_operands (F.Operands.operand_and op f rest) = is_fit f && are_fit_operands rest

  pub are_fit : Formulas → Bool
  are_fit F.Formulas.no_formula = true
  are_fit (F.Formulas.formula_and f fs) = is_fit f && are_fit fs

-- a sound constant, or a fit formula
abbrev pub is_fit_content : Content → Bool
is_fit_content (Const x) = is_sound_scalar x
is_fit_content (Form f) = is_fit f

abbrev pub AreFit : Cells → Type 0
AreFit S = AllByRecursion (λ c. IsTrue (is_fit_content c.1)) S
