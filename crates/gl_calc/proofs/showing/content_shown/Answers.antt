use Rattle.std.proofs.Common.{◌≡◌, Some, ap, sym, subst, ◌∙◌}
use Rattle.std.specs.Rc.{rc_value}
use Rattle.std.proofs.lemmas.Result.{IfOk-weaker}
use Rattle.gl_calculus.specs.Calculation.Calculation as C
use Rattle.gl_calculus.specs.Calculation.Calculation.{IsShown}
use Rattle.gl_calculus.specs.Evaluation.World.{world}
use Rattle.gl_ast.specs.View.{formula_tree}
use Rattle.gl_cells.specs.Content.{content_tree}
use Rattle.gl_value.specs.Made.{shown_tree}
use Rattle.gl_value.specs.View.{scalar_tree}
use Rattle.laws_calculus.proofs.Calculus.Shows.{constant_shows}
use Rattle.gl_calc.proofs.showing.content_shown.Goals as goal

pub returns-in-Const-clause-shown : goal.returns-in-Const-clause-shown
returns-in-Const-clause-shown c = λ version S e q.
    IfOk-weaker c.constant_shown.result
    (λ x. shown_tree x ≡ C.Shown.Value (scalar_tree c.in-Const.x))
    (λ x. IsShown (world version S c.args.table.now.oracle) c.args.a (shown_tree x))
    (λ x r. subst (λ u. IsShown (world version S c.args.table.now.oracle) c.args.a u) (sym r)
    (constant_shows (world version S c.args.table.now.oracle) c.args.a (scalar_tree c.in-Const.x) (e ∙ ap (λ u. Some (content_tree u)) c.in-Const.is)))
    c.constant_shown.ensures

pub returns-in-Form-clause-shown : goal.returns-in-Form-clause-shown
returns-in-Form-clause-shown c = λ version S e q.
    c.formula_shown.ensures.shown version S (formula_tree (rc_value c.in-Form.field-0)) (e ∙ ap (λ u. Some (content_tree u)) c.in-Form.is) q

pub formula_shown-requires : goal.formula_shown-requires
formula_shown-requires c = c.requires.told (formula_tree (rc_value c.in-Form.field-0)) (ap content_tree c.in-Form.is)
