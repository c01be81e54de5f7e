use Rattle.std.proofs.Common.{ap, sym, ◌∙◌, arith}
use Rattle.std.proofs.lemmas.Grind.{common_steps}
use Rattle.gl_ast.specs.View.{formula_tree, argument_trees, operand_trees}
use Rattle.gl_ast.specs.Forms.{formula_tree-Int, formula_tree-Text, formula_tree-Bool, formula_tree-At, trees}
use Rattle.gl_calculus.specs.Forecast as Fo
use Rattle.gl_flow.specs.Shapes.{bindings_of, spilled_at}
use Rattle.gl_flow.proofs.Joining.{joining_starts, stacking_starts}
use Rattle.gl_flow.proofs.shaping.+shape.Goals as goal

pub arguments-loop-x-init : goal.arguments-loop-x-init
arguments-loop-x-init t c =
    let s = c.args.spilled.now in
    joining_starts (Fo.shapes (spilled_at s.any s.places.now s.shapes.now) (bindings_of c.args.bindings.now) (argument_trees c.args.xs.now))

pub operands-loop-x-init : goal.operands-loop-x-init
operands-loop-x-init t c =
    let s = c.args.spilled.now in
    joining_starts (Fo.operand_shapes (spilled_at s.any s.places.now s.shapes.now) (bindings_of c.args.bindings.now) (operand_trees c.args.xs.now))

pub stack-loop-x-init : goal.stack-loop-x-init
stack-loop-x-init t c =
    let s = c.args.spilled.now in
    stacking_starts c.args.flip (Fo.shapes (spilled_at s.any s.places.now s.shapes.now) (bindings_of c.args.bindings.now) (argument_trees c.args.xs.now))

pub shape-returns-in-Int : goal.shape-returns-in-Int
shape-returns-in-Int t c =
    let s = c.args.spilled.now in
    let shape = Fo.shape (spilled_at s.any s.places.now s.shapes.now) (bindings_of c.args.bindings.now) in
    sym (ap (λ f. shape (formula_tree f)) c.in-Int.is ∙ ap shape (formula_tree-Int _))

pub shape-returns-in-Text : goal.shape-returns-in-Text
shape-returns-in-Text t c =
    let s = c.args.spilled.now in
    let shape = Fo.shape (spilled_at s.any s.places.now s.shapes.now) (bindings_of c.args.bindings.now) in
    sym (ap (λ f. shape (formula_tree f)) c.in-Text.is ∙ ap shape (formula_tree-Text _))

pub shape-returns-in-Bool : goal.shape-returns-in-Bool
shape-returns-in-Bool t c =
    let s = c.args.spilled.now in
    let shape = Fo.shape (spilled_at s.any s.places.now s.shapes.now) (bindings_of c.args.bindings.now) in
    sym (ap (λ f. shape (formula_tree f)) c.in-Bool.is ∙ ap shape (formula_tree-Bool _))

pub shape-returns-in-At : goal.shape-returns-in-At
shape-returns-in-At t c =
    let s = c.args.spilled.now in
    let shape = Fo.shape (spilled_at s.any s.places.now s.shapes.now) (bindings_of c.args.bindings.now) in
    sym (ap (λ f. shape (formula_tree f)) c.in-At.is ∙ ap shape (formula_tree-At _))

pub arguments-loop-x-preserved : goal.arguments-loop-x-preserved
arguments-loop-x-preserved t c = grind (arith, common_steps)

pub arguments-returns : goal.arguments-returns
arguments-returns t c = grind (arith, common_steps)

pub first-returns-in-None : goal.first-returns-in-None
first-returns-in-None t c = grind (arith, common_steps)

pub operands-loop-x-preserved : goal.operands-loop-x-preserved
operands-loop-x-preserved t c = grind (arith, common_steps)

pub operands-returns : goal.operands-returns
operands-returns t c = grind (arith, common_steps)

pub shape-returns-in-Area : goal.shape-returns-in-Area
shape-returns-in-Area t c = grind (arith, trees)

pub shape-returns-in-Spill : goal.shape-returns-in-Spill
shape-returns-in-Spill t c = grind (arith, trees)

pub shape-returns-in-Var : goal.shape-returns-in-Var
shape-returns-in-Var t c = grind (arith, trees)

pub shape-returns-in_ok-inner-in-Let : goal.shape-returns-in_ok-inner-in-Let
shape-returns-in_ok-inner-in-Let t c = grind (arith, trees)

pub shape-returns-in_ok-others-in-Chain : goal.shape-returns-in_ok-others-in-Chain
shape-returns-in_ok-others-in-Chain t c = grind (arith, trees)

pub shape-returns-in_ok-second-in-Compare : goal.shape-returns-in_ok-second-in-Compare
shape-returns-in_ok-second-in-Compare t c = grind (arith, trees)

pub stack-loop-x-preserved : goal.stack-loop-x-preserved
stack-loop-x-preserved t c = grind (arith, common_steps)

pub stack-returns : goal.stack-returns
stack-returns t c = grind (arith, common_steps)
