use Rattle.std.proofs.Common.{◌≡◌, IsTrue, IsFalse, subst, sym, ap, ◌∙◌}
use Rattle.gl_calculus.specs.Formulas.Formula.{content}
use Rattle.gl_calculus.specs.Evaluation.Reference.{own_content}
use Rattle.gl_calculus.specs.Evaluation.Sound.{IsProperKey}
use Rattle.gl_cells.specs.Sheet.{sheet}
use Rattle.gl_value.specs.View.{frame_tree}
use Rattle.gl_calculus.specs.Evaluation.Reference.{is_computed}
use Rattle.gl_demand.specs.View.{key_tree}
use Rattle.gl_demand.specs.declared.key.Key.{Key}
use Rattle.gl_demand.proofs.IsFormula.{is_formula, no_formula}
use Rattle.gl_demand.proofs.properness.proper.Goals as goal

pub returns-in-Cell-clause-yes : goal.returns-in-Cell-clause-yes
returns-in-Cell-clause-yes c = λ t.
    let S = sheet c.args.cells.now in
    let h = own_content (content S c.in-Cell.a) (frame_tree c.in-Cell.env) c.in-Cell.a in
    let e : c.is_computed.result ≡ is_computed h = c.is_computed.ensures ∙ ap is_computed c.held_at.ensures.value in
    subst (λ (k : Key). IsProperKey S (key_tree k)) (sym c.in-Cell.is) (is_formula h (subst IsTrue e t))

pub returns-in-Cell-clause-no : goal.returns-in-Cell-clause-no
returns-in-Cell-clause-no c = λ t p.
    let S = sheet c.args.cells.now in
    let h = own_content (content S c.in-Cell.a) (frame_tree c.in-Cell.env) c.in-Cell.a in
    let e : c.is_computed.result ≡ is_computed h = c.is_computed.ensures ∙ ap is_computed c.held_at.ensures.value in
    let (f, is) = subst (λ (k : Key). IsProperKey S (key_tree k)) c.in-Cell.is p in
    no_formula h (subst IsFalse e t) f is
