use Rattle.std.proofs.Common.{ap, sym, ◌∙◌}
use Rattle.gl_ast.specs.View.{formula_tree}
use Rattle.gl_ast.specs.Forms.{formula_tree-Text, formula_tree-Bool, formula_tree-At, formula_tree-Spill, formula_tree-Area, formula_tree-Var, formula_tree-Neg, formula_tree-Chain, formula_tree-Compare, formula_tree-Call, formula_tree-Let}
use Rattle.gl_calculus.specs.Forecast as Fo
use Rattle.gl_flow.proofs.shaping.written.Goals as goal

pub returns-in-Text : goal.returns-in-Text
returns-in-Text c = sym (ap (λ f. Fo.written_extent (formula_tree f)) c.in-Text.is ∙ ap Fo.written_extent (formula_tree-Text _))

pub returns-in-Bool : goal.returns-in-Bool
returns-in-Bool c = sym (ap (λ f. Fo.written_extent (formula_tree f)) c.in-Bool.is ∙ ap Fo.written_extent (formula_tree-Bool _))

pub returns-in-At : goal.returns-in-At
returns-in-At c = sym (ap (λ f. Fo.written_extent (formula_tree f)) c.in-At.is ∙ ap Fo.written_extent (formula_tree-At _))

pub returns-in-Spill : goal.returns-in-Spill
returns-in-Spill c = sym (ap (λ f. Fo.written_extent (formula_tree f)) c.in-Spill.is ∙ ap Fo.written_extent (formula_tree-Spill _))

pub returns-in-Area : goal.returns-in-Area
returns-in-Area c = sym (ap (λ f. Fo.written_extent (formula_tree f)) c.in-Area.is ∙ ap Fo.written_extent (formula_tree-Area _))

pub returns-in-Var : goal.returns-in-Var
returns-in-Var c = sym (ap (λ f. Fo.written_extent (formula_tree f)) c.in-Var.is ∙ ap Fo.written_extent (formula_tree-Var _))

pub returns-in-Neg : goal.returns-in-Neg
returns-in-Neg c = sym (ap (λ f. Fo.written_extent (formula_tree f)) c.in-Neg.is ∙ ap Fo.written_extent (formula_tree-Neg _))

pub returns-in-Chain : goal.returns-in-Chain
returns-in-Chain c = sym (ap (λ f. Fo.written_extent (formula_tree f)) c.in-Chain.is ∙ ap Fo.written_extent (formula_tree-Chain _ _ _))

pub returns-in-Compare : goal.returns-in-Compare
returns-in-Compare c = sym (ap (λ f. Fo.written_extent (formula_tree f)) c.in-Compare.is ∙ ap Fo.written_extent (formula_tree-Compare _ _ _))

pub returns-in-Call : goal.returns-in-Call
returns-in-Call c = sym (ap (λ f. Fo.written_extent (formula_tree f)) c.in-Call.is ∙ ap Fo.written_extent (formula_tree-Call _ _))

pub returns-in-Let : goal.returns-in-Let
returns-in-Let c = sym (ap (λ f. Fo.written_extent (formula_tree f)) c.in-Let.is ∙ ap Fo.written_extent (formula_tree-Let _ _ _))
