-- The derived `==` answers true exactly where the trees are equal.
use Rattle.std.proofs.Common.{◌≡◌, IsTrue, ◌↔◌}
use Rattle.gl_plane.specs.Exact.{exactly}
use Rattle.gl_ast.specs.View.{formula_tree}
use Rattle.gl_ast.specs.Exact.{formula_equality}
use Rattle.gl_ast.specs.DerivedEq.{eq_is_formula}
use Rattle.gl_ast.specs.declared.Formula.{Formula}
use Rattle.gl_ast.specs.contracts.FormulaPartialEq.TheImpl.{ghosts as formula}

pub formula_equal : (x y : Formula) → IsTrue (formula.eq x y) ↔ (formula_tree x ≡ formula_tree y)
formula_equal x y = rw eq_is_formula (exactly formula_equality (formula_tree x) (formula_tree y))
