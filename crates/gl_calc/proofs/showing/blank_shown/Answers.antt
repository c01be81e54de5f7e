use Rattle.std.proofs.Common.{◌≡◌, Some, None, option_map, sym, subst}
use Rattle.std.proofs.lemmas.Result.{IfOk-weaker}
use Rattle.gl_calculus.specs.Calculation.Calculation as C
use Rattle.gl_calculus.specs.Calculation.Calculation.{IsShown, TopHas}
use Rattle.gl_calculus.specs.Evaluation.Key as K
use Rattle.gl_calculus.specs.Calculation.Memory.{Table}
use Rattle.gl_calculus.specs.Evaluation.Oracle.{cover}
use Rattle.gl_calculus.specs.Evaluation.Reference.{spilled}
use Rattle.gl_calculus.specs.Values.Value as V
use Rattle.gl_calculus.specs.Evaluation.World.{world}
use Rattle.gl_plane.specs.Entries.{offsets}
use Rattle.gl_value.specs.Forms.{scalar_tree-Blank}
use Rattle.gl_value.specs.Made.{shown_tree}
use Rattle.gl_calc.proofs.Shows.{covered_seen, uncovered_seen}
use Rattle.gl_calc.proofs.Telling.{cover_told}
use Rattle.gl_calc.proofs.showing.blank_shown.Goals as goal

pub returns-in-Some-clause-shown : goal.returns-in-Some-clause-shown
returns-in-Some-clause-shown c = λ version S e q.
    IfOk-weaker c.element_shown.result
    (λ x. (v : V.Value) × TopHas (world version S c.args.table.now.oracle) c.in-Some.cover.0 (K.Outcome.Value v) × (shown_tree x ≡ C.Shown.Value (spilled (Some v) c.in-Some.cover.1 c.in-Some.cover.2)))
    (λ x. IsShown (world version S c.args.table.now.oracle) c.args.a (shown_tree x))
    (λ x r. covered_seen (world version S c.args.table.now.oracle) c.args.a c.in-Some.cover.0 c.in-Some.cover.1 c.in-Some.cover.2 (shown_tree x) e
    (subst (λ (u : Table). Some c.in-Some.cover ≡ option_map offsets (cover u.oracle c.args.a)) c.table.view_is c.in-Some.ensures) r)
    (c.element_shown.ensures.shown version S c.args.table.now.oracle q)

pub returns-in-None-clause-shown : goal.returns-in-None-clause-shown
returns-in-None-clause-shown c = λ version S e q.
    subst (λ u. IsShown (world version S c.args.table.now.oracle) c.args.a (C.Shown.Value u)) (sym scalar_tree-Blank)
    (uncovered_seen (world version S c.args.table.now.oracle) c.args.a e (subst (λ (u : Table). None ≡ option_map offsets (cover u.oracle c.args.a)) c.table.view_is c.in-None.ensures))

pub element_shown-requires : goal.element_shown-requires
element_shown-requires c =
    cover_told c.args.table.now c.args.a c.in-Some.cover.0 c.in-Some.cover.1 c.in-Some.cover.2 c.requires
    (subst (λ (u : Table). Some c.in-Some.cover ≡ option_map offsets (cover u.oracle c.args.a)) c.table.view_is c.in-Some.ensures)
