-- Calls whose arguments are all evaluated.
use Rattle.std.specs.Prelude.{List}
use Rattle.gl_calculus.specs.Values.Value as V
use Rattle.gl_calculus.specs.Formulas.Formula.{Fun}
use Rattle.gl_calculus.specs.Values.Functions.{apply}
use Rattle.gl_calculus.specs.Evaluation.Key.{Eval, give, ◌>>=◌}
use Rattle.gl_calculus.specs.Evaluation.Evaluation.{Argument, all_values}

-- a function whose arguments are all evaluated
abbrev pub plain_call : Fun → List Argument → Eval V.Value
plain_call f xs = all_values xs >>= λ vs. give (apply f vs)
