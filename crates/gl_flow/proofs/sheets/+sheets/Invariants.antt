use Rattle.std.proofs.Common.{◌≡◌, drop}
use Rattle.std.specs.List.{list_any}
use Rattle.gl_ast.specs.View.{argument_trees, operand_trees}
use Rattle.gl_calculus.specs.Forecast as Fo
use Rattle.gl_flow.proofs.sheets.+sheets.Given as goal

abbrev pub invariant-arguments-loop-x : goal.invariant-arguments-loop-x
invariant-arguments-loop-x l = list_any Fo.piece_makes (Fo.all_pieces (argument_trees (drop l.x-index l.xs))) ≡ list_any Fo.piece_makes (Fo.all_pieces (argument_trees l.xs))

abbrev pub invariant-operands-loop-x : goal.invariant-operands-loop-x
invariant-operands-loop-x l = list_any Fo.piece_makes (Fo.operand_pieces (operand_trees (drop l.x-index l.xs))) ≡ list_any Fo.piece_makes (Fo.operand_pieces (operand_trees l.xs))
