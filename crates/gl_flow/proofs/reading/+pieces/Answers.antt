use Rattle.std.proofs.Common.{◌++◌, ap, sym, ◌∙◌, arith}
use Rattle.std.proofs.lemmas.Grind.{common_steps}
use Rattle.gl_ast.specs.View.{formula_tree, argument_trees, operand_trees}
use Rattle.gl_ast.specs.Forms.{formula_tree-Int, formula_tree-Text, formula_tree-Bool, formula_tree-Var, trees}
use Rattle.gl_calculus.specs.Forecast as Fo
use Rattle.gl_flow.specs.Pieces.{piece_trees, without_calls}
use Rattle.gl_flow.proofs.Parts.{pieces_none, pieces_next, split_arguments, split_operands, pieces_then}
use Rattle.gl_flow.proofs.reading.+pieces.Goals as goal

pub arguments-loop-x-preserved : goal.arguments-loop-x-preserved
arguments-loop-x-preserved t c =
    pieces_next (λ xs. Fo.all_pieces (argument_trees xs)) (λ x. Fo.pieces (formula_tree x)) split_arguments c.args.xs.now c.loop-x.x-index c.x-item.result c.loop-x.list.items c.pieces.new.list.items (omega arith) c.x-item.is c.in_ok-pieces.ensures
    ∙ c.loop-x.invariant

pub operands-loop-x-preserved : goal.operands-loop-x-preserved
operands-loop-x-preserved t c =
    pieces_next (λ xs. Fo.operand_pieces (operand_trees xs)) (λ x. Fo.pieces (formula_tree x.1)) split_operands c.args.xs.now c.loop-x.x-index c.x-item.result c.loop-x.list.items c.pieces.new.list.items (omega arith) c.x-item.is c.in_ok-pieces.ensures
    ∙ c.loop-x.invariant

pub pieces-returns-in-Int : goal.pieces-returns-in-Int
pieces-returns-in-Int t c =
    let before = piece_trees c.args.list.now.items in
    pieces_none c.args.list.now.items ∙ sym (ap (λ f. before ++ without_calls (Fo.pieces (formula_tree f))) c.in-Int.is ∙ ap (λ f. before ++ without_calls (Fo.pieces f)) (formula_tree-Int _))

pub pieces-returns-in-Text : goal.pieces-returns-in-Text
pieces-returns-in-Text t c =
    let before = piece_trees c.args.list.now.items in
    pieces_none c.args.list.now.items ∙ sym (ap (λ f. before ++ without_calls (Fo.pieces (formula_tree f))) c.in-Text.is ∙ ap (λ f. before ++ without_calls (Fo.pieces f)) (formula_tree-Text _))

pub pieces-returns-in-Bool : goal.pieces-returns-in-Bool
pieces-returns-in-Bool t c =
    let before = piece_trees c.args.list.now.items in
    pieces_none c.args.list.now.items ∙ sym (ap (λ f. before ++ without_calls (Fo.pieces (formula_tree f))) c.in-Bool.is ∙ ap (λ f. before ++ without_calls (Fo.pieces f)) (formula_tree-Bool _))

pub pieces-returns-in-Var : goal.pieces-returns-in-Var
pieces-returns-in-Var t c =
    let before = piece_trees c.args.list.now.items in
    pieces_none c.args.list.now.items ∙ sym (ap (λ f. before ++ without_calls (Fo.pieces (formula_tree f))) c.in-Var.is ∙ ap (λ f. before ++ without_calls (Fo.pieces f)) (formula_tree-Var _))

pub arguments-returns : goal.arguments-returns
arguments-returns t c = grind (arith, common_steps)

pub operands-returns : goal.operands-returns
operands-returns t c = grind (arith, common_steps)

pub pieces-returns-in-Area : goal.pieces-returns-in-Area
pieces-returns-in-Area t c = grind (arith, trees, pieces_then, pieces_none)

pub pieces-returns-in-At : goal.pieces-returns-in-At
pieces-returns-in-At t c = grind (arith, trees, pieces_then, pieces_none)

pub pieces-returns-in-Call : goal.pieces-returns-in-Call
pieces-returns-in-Call t c = grind (arith, trees, pieces_then, pieces_none)

pub pieces-returns-in-Neg : goal.pieces-returns-in-Neg
pieces-returns-in-Neg t c = grind (arith, trees, pieces_then, pieces_none)

pub pieces-returns-in-Spill : goal.pieces-returns-in-Spill
pieces-returns-in-Spill t c = grind (arith, trees, pieces_then, pieces_none)

pub pieces-returns-in_ok-operands-in-Chain : goal.pieces-returns-in_ok-operands-in-Chain
pieces-returns-in_ok-operands-in-Chain t c = grind (arith, trees, pieces_then, pieces_none)

pub pieces-returns-in_ok-pieces-in-Compare-2 : goal.pieces-returns-in_ok-pieces-in-Compare-2
pieces-returns-in_ok-pieces-in-Compare-2 t c = grind (arith, trees, pieces_then, pieces_none)

pub pieces-returns-in_ok-pieces-in-Let-2 : goal.pieces-returns-in_ok-pieces-in-Let-2
pieces-returns-in_ok-pieces-in-Let-2 t c = grind (arith, trees, pieces_then, pieces_none)
