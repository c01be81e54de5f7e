use Rattle.std.proofs.Common.{◌∷◌, ap, subst, sym, Err}
use Rattle.gl_ast.specs.View.{formula_tree}
use Rattle.gl_script.specs.Parts.{IsContent}
use Rattle.gl_script.specs.declared.requests.CommandFault.{CommandFault}
use Rattle.gl_script.proofs.Contents.{formula_content, fault_content}
use Rattle.gl_script.proofs.content.read_formula.Goals as goal

pub returns-in-Ok-new : goal.returns-in-Ok-new
returns-in-Ok-new c = formula_content c.args.text.now _ (formula_tree c.in-Ok.formula) c.in-Ok.ensures (ap formula_tree c.in-Ok-new.ensures.ok)

pub returns : goal.returns
returns c = subst (λ (e : CommandFault). IsContent (61 ∷ c.args.text.now) (Err e)) (sym c.formula_fault.ensures) (fault_content c.args.text.now c.in-Err.fault c.in-Err.ensures)
