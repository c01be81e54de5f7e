use Rattle.std.proofs.Common.{◌≡◌, ◌++◌, drop}
use Rattle.gl_ast.specs.View.{argument_trees, operand_trees}
use Rattle.gl_calculus.specs.Forecast as Fo
use Rattle.gl_flow.specs.Pieces.{piece_trees, without_calls}
use Rattle.gl_flow.proofs.reading.+pieces.Given as goal

abbrev pub invariant-arguments-loop-x : goal.invariant-arguments-loop-x
invariant-arguments-loop-x l = piece_trees l.list.items ++ without_calls (Fo.all_pieces (argument_trees (drop l.x-index l.xs))) ≡ piece_trees l.initial.list.items ++ without_calls (Fo.all_pieces (argument_trees l.xs))

abbrev pub invariant-operands-loop-x : goal.invariant-operands-loop-x
invariant-operands-loop-x l = piece_trees l.list.items ++ without_calls (Fo.operand_pieces (operand_trees (drop l.x-index l.xs))) ≡ piece_trees l.initial.list.items ++ without_calls (Fo.operand_pieces (operand_trees l.xs))
