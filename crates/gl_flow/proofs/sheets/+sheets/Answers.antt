use Rattle.std.proofs.Common.{ap, sym, ◌∙◌, arith}
use Rattle.std.proofs.lemmas.Grind.{common_steps}
use Rattle.std.specs.List.{list_any}
use Rattle.gl_ast.specs.View.{formula_tree}
use Rattle.gl_ast.specs.Forms.{formula_tree-Int, formula_tree-Text, formula_tree-Bool, formula_tree-At, formula_tree-Spill, formula_tree-Area, formula_tree-Var}
use Rattle.gl_calculus.specs.Forecast as Fo
use Rattle.gl_flow.proofs.sheets.+sheets.Goals as goal

pub makes_sheets-returns-in-Int : goal.makes_sheets-returns-in-Int
makes_sheets-returns-in-Int t c = sym (ap (λ f. list_any Fo.piece_makes (Fo.pieces (formula_tree f))) c.in-Int.is ∙ ap (λ f. list_any Fo.piece_makes (Fo.pieces f)) (formula_tree-Int _))

pub makes_sheets-returns-in-Text : goal.makes_sheets-returns-in-Text
makes_sheets-returns-in-Text t c = sym (ap (λ f. list_any Fo.piece_makes (Fo.pieces (formula_tree f))) c.in-Text.is ∙ ap (λ f. list_any Fo.piece_makes (Fo.pieces f)) (formula_tree-Text _))

pub makes_sheets-returns-in-Bool : goal.makes_sheets-returns-in-Bool
makes_sheets-returns-in-Bool t c = sym (ap (λ f. list_any Fo.piece_makes (Fo.pieces (formula_tree f))) c.in-Bool.is ∙ ap (λ f. list_any Fo.piece_makes (Fo.pieces f)) (formula_tree-Bool _))

pub makes_sheets-returns-in-At : goal.makes_sheets-returns-in-At
makes_sheets-returns-in-At t c = sym (ap (λ f. list_any Fo.piece_makes (Fo.pieces (formula_tree f))) c.in-At.is ∙ ap (λ f. list_any Fo.piece_makes (Fo.pieces f)) (formula_tree-At _))

pub makes_sheets-returns-in-Spill : goal.makes_sheets-returns-in-Spill
makes_sheets-returns-in-Spill t c = sym (ap (λ f. list_any Fo.piece_makes (Fo.pieces (formula_tree f))) c.in-Spill.is ∙ ap (λ f. list_any Fo.piece_makes (Fo.pieces f)) (formula_tree-Spill _))

pub makes_sheets-returns-in-Area : goal.makes_sheets-returns-in-Area
makes_sheets-returns-in-Area t c = sym (ap (λ f. list_any Fo.piece_makes (Fo.pieces (formula_tree f))) c.in-Area.is ∙ ap (λ f. list_any Fo.piece_makes (Fo.pieces f)) (formula_tree-Area _))

pub makes_sheets-returns-in-Var : goal.makes_sheets-returns-in-Var
makes_sheets-returns-in-Var t c = sym (ap (λ f. list_any Fo.piece_makes (Fo.pieces (formula_tree f))) c.in-Var.is ∙ ap (λ f. list_any Fo.piece_makes (Fo.pieces f)) (formula_tree-Var _))

pub arguments-loop-x-preserved : goal.arguments-loop-x-preserved
arguments-loop-x-preserved t c = grind (arith, common_steps)

pub arguments-returns : goal.arguments-returns
arguments-returns t c = grind (arith, common_steps)

pub arguments-returns-then-makes_sheets : goal.arguments-returns-then-makes_sheets
arguments-returns-then-makes_sheets t c = grind (arith, common_steps)

pub operands-loop-x-preserved : goal.operands-loop-x-preserved
operands-loop-x-preserved t c = grind (arith, common_steps)

pub operands-returns : goal.operands-returns
operands-returns t c = grind (arith, common_steps)

pub operands-returns-then-makes_sheets : goal.operands-returns-then-makes_sheets
operands-returns-then-makes_sheets t c = grind (arith, common_steps)
