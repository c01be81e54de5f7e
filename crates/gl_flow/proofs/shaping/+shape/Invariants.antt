use Rattle.std.proofs.Common.{drop}
use Rattle.gl_ast.specs.View.{argument_trees, operand_trees}
use Rattle.gl_calculus.specs.Forecast as Fo
use Rattle.gl_flow.specs.Shapes.{bindings_of, spilled_at, stacked}
use Rattle.gl_flow.proofs.Joining.{IsJoining, IsStacking}
use Rattle.gl_flow.proofs.shaping.+shape.Given as goal

abbrev pub invariant-arguments-loop-x : goal.invariant-arguments-loop-x
invariant-arguments-loop-x l =
    let sp = spilled_at l.spilled.any l.spilled.places.now l.spilled.shapes.now in
    let bs = bindings_of l.bindings in
    IsJoining l.all (Fo.shapes sp bs (argument_trees (drop l.x-index l.xs))) (Fo.greatest_shape (Fo.shapes sp bs (argument_trees l.xs)))

abbrev pub invariant-operands-loop-x : goal.invariant-operands-loop-x
invariant-operands-loop-x l =
    let sp = spilled_at l.spilled.any l.spilled.places.now l.spilled.shapes.now in
    let bs = bindings_of l.bindings in
    IsJoining l.all (Fo.operand_shapes sp bs (operand_trees (drop l.x-index l.xs))) (Fo.greatest_shape (Fo.operand_shapes sp bs (operand_trees l.xs)))

abbrev pub invariant-stack-loop-x : goal.invariant-stack-loop-x
invariant-stack-loop-x l =
    let sp = spilled_at l.spilled.any l.spilled.places.now l.spilled.shapes.now in
    let bs = bindings_of l.bindings in
    IsStacking l.flip l.all (Fo.shapes sp bs (argument_trees (drop l.x-index l.xs))) (stacked l.flip (Fo.shapes sp bs (argument_trees l.xs)))
