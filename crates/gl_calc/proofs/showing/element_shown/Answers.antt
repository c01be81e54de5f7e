use Rattle.std.proofs.Common.{◌≡◌, Some, None, subst}
use Rattle.std.proofs.lemmas.Result.{IfOk-weaker}
use Rattle.gl_calculus.specs.Calculation.Calculation as C
use Rattle.gl_calculus.specs.Calculation.Calculation.{TopHas}
use Rattle.gl_calculus.specs.Evaluation.Key as K
use Rattle.gl_calculus.specs.Calculation.Memory.{Table}
use Rattle.gl_calculus.specs.Evaluation.Reference.{spilled}
use Rattle.gl_calculus.specs.Values.Value as V
use Rattle.gl_calculus.specs.Evaluation.World.{world}
use Rattle.gl_core.specs.Results.{outcome_in}
use Rattle.gl_value.specs.Forms.{frame_tree-Top}
use Rattle.gl_value.specs.Made.{shown_tree}
use Rattle.gl_value.specs.View.{frame_tree}
use Rattle.gl_value.specs.declared.Env.{Top}
use Rattle.gl_demand.specs.View.{outcome_tree}
use Rattle.gl_calc.proofs.Shows.{top_has}
use Rattle.gl_calc.proofs.Telling.{told_value, told_some}
use Rattle.gl_calc.proofs.showing.element_shown.Goals as goal

pub returns-clause-shown : goal.returns-clause-shown
returns-clause-shown c = λ version S w q.
    let t = c.args.table.now in
    let o = outcome_tree c.in-Some.outcome.now in
    let root = c.args.cover.0 in
    IfOk-weaker c.outcome_element.result
    (λ x. (v : V.Value) × (o ≡ K.Outcome.Value v) × (shown_tree x ≡ C.Shown.Value (spilled (Some v) c.args.cover.1 c.args.cover.2)))
    (λ x. (v : V.Value) × TopHas (world version S w) root (K.Outcome.Value v) × (shown_tree x ≡ C.Shown.Value (spilled (Some v) c.args.cover.1 c.args.cover.2)))
    (λ x (v, e, y). (
      v,
      subst (λ u. TopHas (world version S w) root u) e (top_has (world version S w) t (frame_tree Top) root o frame_tree-Top q
          (subst (λ (u : Table). Some o ≡ outcome_in u.notes (K.Cell (frame_tree Top) root)) c.table.view_is c.in-Some.ensures.value)),
      y,
    ))
    c.outcome_element.ensures.shown

pub outcome_element-requires-clause-value : goal.outcome_element-requires-clause-value
outcome_element-requires-clause-value c =
    let o = outcome_tree c.in-Some.outcome.now in
    told_value c.args.table.now (frame_tree Top) c.args.cover.0 o frame_tree-Top c.requires
    (subst (λ (u : Table). Some o ≡ outcome_in u.notes (K.Cell (frame_tree Top) c.args.cover.0)) c.table.view_is c.in-Some.ensures.value)

pub unreachable-requires : goal.unreachable-requires
unreachable-requires c =
    told_some c.args.table.now (frame_tree Top) c.args.cover.0 frame_tree-Top c.requires
    (subst (λ (u : Table). None ≡ outcome_in u.notes (K.Cell (frame_tree Top) c.args.cover.0)) c.table.view_is c.in-None.ensures.value)
