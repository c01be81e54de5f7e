use Rattle.std.proofs.Common.{◌∙◌, Some, Vec, Global, refl, ap, subst}
use Rattle.gl_calculus.specs.Computation.Lists.{AreDistinct}
use Rattle.gl_calculus.specs.Formulas.Formula.{Cells}
use Rattle.gl_calculus.specs.Edits.Steps.{step_of}
use Rattle.laws_calculus.proofs.SheetEdits.Distinct.{distinct_in_order}
use Rattle.gl_merge.specs.Edit.{EditValue}
use Rattle.gl_undo.specs.View.{changes_tree}
use Rattle.gl_run.specs.Ready.{places}
use Rattle.gl_run.proofs.Listed.{listed_places}
use Rattle.gl_run.proofs.Readying.{same_known, refused_by}
use Rattle.gl_run.proofs.local.prepare.Goals as goal

pub step_of-requires-clause-apart : goal.step_of-requires-clause-apart
step_of-requires-clause-apart c = subst AreDistinct (listed_places c.args.list.items) (distinct_in_order (places (changes_tree c.args.list.items)) c.requires.ordered)

pub returns-in-Ok-clause-known : goal.returns-in-Ok-clause-known
returns-in-Ok-clause-known c = same_known c.args.script.now c.in-Some.replica c.own_edits.new.replica c.in-Some.is c.own_edits.ensures.same

pub returns-in-Ok-clause-ready : goal.returns-in-Ok-clause-ready
returns-in-Ok-clause-ready c = (c.own_edits.new.replica, refl, c.in-Ok.ensures.edits)

pub returns-in-Err-clause-known : goal.returns-in-Err-clause-known
returns-in-Err-clause-known c = same_known c.args.script.now c.in-Some.replica c.own_edits.new.replica c.in-Some.is c.own_edits.ensures.same

pub returns-in-Err-clause-ready : goal.returns-in-Err-clause-ready
returns-in-Err-clause-ready c =
    let q = c.own_edits.new.replica in
    refused_by (λ (v : Vec EditValue Global). v.items) (record c.args.script.now { replica = Some q }) (changes_tree c.args.list.items) q refl c.in-Err.fault c.in-Err.ensures.edits

pub returns-in_ok-step_of-in-None-clause-ready : goal.returns-in_ok-step_of-in-None-clause-ready
returns-in_ok-step_of-in-None-clause-ready c = (c.in-None.is, c.in_ok-step_of-in-None.ensures ∙ ap (λ (S : Cells). step_of S (changes_tree c.args.list.items)) c.cells.ensures)
