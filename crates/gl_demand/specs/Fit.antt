-- Formulas that are fit, as the code holds them.
use Rattle.std.specs.Prelude.{◌≡◌, ℕ, List, IsTrue}
use Rattle.std.specs.List.{All}
use Rattle.gl_calculus.specs.Formulas.Formula.{Formulas, Fun}
use Rattle.gl_calculus.specs.Formulas.Fit.{is_fit, takes, number_of}
use Rattle.gl_ast.specs.View.{formula_tree}
use Rattle.gl_ast.specs.declared.Formula.{Formula}

abbrev pub IsFit : Formula → Type 0
IsFit f = IsTrue (is_fit (formula_tree f))

abbrev pub AreFit : List Formula → Type 0
AreFit xs = All IsFit xs

-- a call of the function may have so many arguments
abbrev pub Takes : Fun → ℕ → Type 0
Takes f n = (xs : Formulas) × (number_of xs ≡ n) × IsTrue (takes f xs)
