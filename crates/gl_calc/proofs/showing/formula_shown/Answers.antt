use Rattle.std.proofs.Common.{◌≡◌, Some, None, option_map, subst}
use Rattle.std.proofs.lemmas.Result.{IfOk-weaker}
use Rattle.gl_calculus.specs.Calculation.Calculation as C
use Rattle.gl_calculus.specs.Calculation.Calculation.{IsShown}
use Rattle.gl_calculus.specs.Evaluation.Key as K
use Rattle.gl_calculus.specs.Calculation.Memory.{Table}
use Rattle.gl_calculus.specs.Evaluation.Oracle.{status}
use Rattle.gl_calculus.specs.Evaluation.Reference.{shown}
use Rattle.gl_calculus.specs.Values.Value as V
use Rattle.gl_calculus.specs.Evaluation.World.{world}
use Rattle.gl_plane.specs.Permit.{permit_tree}
use Rattle.gl_value.specs.Forms.{frame_tree-Top}
use Rattle.gl_value.specs.Made.{shown_tree}
use Rattle.gl_value.specs.View.{frame_tree}
use Rattle.gl_value.specs.declared.Env.{Top}
use Rattle.gl_core.specs.Results.{outcome_in}
use Rattle.gl_demand.specs.View.{outcome_tree}
use Rattle.gl_calc.proofs.Shows.{outcome_seen, cycle_seen}
use Rattle.gl_calc.proofs.showing.formula_shown.Goals as goal

pub returns-in-Some-clause-shown : goal.returns-in-Some-clause-shown
returns-in-Some-clause-shown c = λ version S f e q.
    let t = c.args.table.now in
    let o = outcome_tree c.in-Some.outcome.now in
    let p = option_map permit_tree c.status.result in
    IfOk-weaker c.outcome_shown.result
    (λ x. (v : V.Value) × (o ≡ K.Outcome.Value v) × (shown_tree x ≡ C.Shown.Value (shown p v)))
    (λ x. IsShown (world version S t.oracle) c.args.a (shown_tree x))
    (λ x r. outcome_seen (world version S t.oracle) t (frame_tree Top) c.args.a f o p (shown_tree x) frame_tree-Top e q (subst (λ (u : Table). Some o ≡ outcome_in u.notes (K.Cell (frame_tree Top) c.args.a)) c.table.view_is c.in-Some.ensures.value)
    (subst (λ (u : Table). p ≡ status u.oracle c.args.a) c.table.view_is c.status.ensures) r)
    c.outcome_shown.ensures.shown

pub returns-clause-shown : goal.returns-clause-shown
returns-clause-shown c = λ version S f e q.
    let t = c.args.table.now in
    cycle_seen (world version S t.oracle) t (frame_tree Top) c.args.a f frame_tree-Top e q (subst (λ (u : Table). None ≡ outcome_in u.notes (K.Cell (frame_tree Top) c.args.a)) c.table.view_is c.in-None.ensures.value)

pub outcome_shown-requires-clause-value : goal.outcome_shown-requires-clause-value
outcome_shown-requires-clause-value c =
    let t = c.args.table.now in
    let o = outcome_tree c.in-Some.outcome.now in
    c.requires o (subst (λ (e : V.Frame). Some o ≡ outcome_in t.notes (K.Cell e c.args.a)) frame_tree-Top
    (subst (λ (u : Table). Some o ≡ outcome_in u.notes (K.Cell (frame_tree Top) c.args.a)) c.table.view_is c.in-Some.ensures.value))
