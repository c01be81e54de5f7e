use Rattle.std.proofs.Common.{subst, sym, ap, ◌∙◌}
use Rattle.gl_calculus.specs.Evaluation.Evaluation as E
use Rattle.gl_calculus.specs.Values.Sheet as S
use Rattle.gl_value.specs.Forms.{value_tree-One}
use Rattle.gl_value.specs.View.{value_tree, frame_tree}
use Rattle.gl_demand.specs.Walks.{Walks}
use Rattle.gl_demand.proofs.making.updated.Goals as goal

pub returns-in-One-clause-walk : goal.returns-in-One-clause-walk
returns-in-One-clause-walk g c = λ w t.
    subst (λ u. Walks w (E.on_sheet (λ s. E.made (S.update (frame_tree c.args.ctx.now.env.now) s c.args.a (value_tree c.args.v))) u) value_tree t c.updated_scalar.result t)
    (sym (ap value_tree c.in-One.is ∙ value_tree-One c.in-One.x)) (c.updated_scalar.ensures.walk w t)
