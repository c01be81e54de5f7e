use Rattle.std.proofs.Common.{arith}
use Rattle.gl_ast.specs.Equal.{formula_equal}
use Rattle.gl_ast.proofs.same_formula.Goals as goal

pub returns : goal.returns
returns c = grind (arith, formula_equal)
