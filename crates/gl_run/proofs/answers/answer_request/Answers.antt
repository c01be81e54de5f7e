use Rattle.std.specs.Prelude.{codes}
use Rattle.std.proofs.Common.{ℕ, Vec, Global, refl}
use Rattle.std.proofs.lemmas.Result.{IfOk-weaker}
use Rattle.gl_calculus.specs.Formulas.Formula.{content}
use Rattle.gl_protocol.specs.Scripts.Acts.{Does}
use Rattle.gl_protocol.specs.Scripts.Commands as C
use Rattle.gl_protocol.specs.Scripts.Commands.{get_text, list_text}
use Rattle.gl_protocol.specs.Replies.Tables.{line}
use Rattle.gl_ast.specs.View.{version_tree}
use Rattle.gl_cells.specs.Content.{content_tree}
use Rattle.gl_cells.specs.Sheet.{sheet}
use Rattle.gl_script.specs.Command.{edit_of}
use Rattle.gl_script.specs.declared.requests.Request.TheVariants as r
use Rattle.gl_protocol.specs.Run.Records.{csv_records}
use Rattle.gl_run.specs.Replies.{TellsForecast}
use Rattle.gl_run.specs.Script.{known_of, script_of}
use Rattle.gl_run.proofs.Asking.{answers_all, if_said, if_changed, if_merged, if_exported, if_done, nothing_done, get_done, list_done, flow_done, quit_done, version_refused}
use Rattle.gl_run.proofs.Spending.{untouched_all, at_steps, if_untouched, if_touched, if_refused, if_calculated}
use Rattle.gl_run.proofs.answers.answer_request.Goals as goal

pub returns-in-Nothing-clause-acts : goal.returns-in-Nothing-clause-acts
returns-in-Nothing-clause-acts g c =
    let version = version_tree c.args.version in
    let s = script_of c.args.script.now in
    answers_all version s s c.args.request r.Nothing C.Request.Nothing c.in-Nothing.is (λ l h. h) c.new.result.items (nothing_done version s c.new.result.items c.new.ensures.items)

pub returns-in-Set-clause-acts : goal.returns-in-Set-clause-acts
returns-in-Set-clause-acts g c =
    let version = version_tree c.args.version in
    let s = script_of c.args.script.now in
    let a = c.in-Set.a in
    let content = c.in-Set.content in
    if_changed version s (script_of c.set.new.script) c.args.request (r.Set a content) c.set.result c.in-Set.is (C.Request.Set a (content_tree content)) (λ l h. h.0) refl c.set.ensures.does

pub returns-in-Clear-clause-acts : goal.returns-in-Clear-clause-acts
returns-in-Clear-clause-acts g c =
    let version = version_tree c.args.version in
    let s = script_of c.args.script.now in
    if_changed version s (script_of c.clear.new.script) c.args.request (r.Clear c.in-Clear.range) c.clear.result c.in-Clear.is (C.Request.Clear c.in-Clear.range) (λ l h. h) refl c.clear.ensures.does

pub returns-in-Get-clause-acts : goal.returns-in-Get-clause-acts
returns-in-Get-clause-acts g c =
    let version = version_tree c.args.version in
    let s = script_of c.args.script.now in
    let a = c.in-Get.a in
    let T = sheet c.cells.result.now in
    if_said version s s c.args.request (r.Get a) (C.Request.Get a) c.in-Get.is (λ l h. h) c.get.result (line (get_text (content T a))) (get_done version s T a c.cells.ensures) c.get.ensures

pub returns-in-List-clause-acts : goal.returns-in-List-clause-acts
returns-in-List-clause-acts g c =
    let version = version_tree c.args.version in
    let s = script_of c.args.script.now in
    let T = sheet c.cells-in-List.result.now in
    if_said version s s c.args.request r.List C.Request.ListAll c.in-List.is (λ l h. h) c.list.result (list_text version T) (list_done version s T c.cells-in-List.ensures) c.list.ensures

pub returns-in-Flow-clause-acts : goal.returns-in-Flow-clause-acts
returns-in-Flow-clause-acts g c =
    let version = version_tree c.args.version in
    let s = script_of c.args.script.now in
    let T = sheet c.cells-in-Flow.result.now in
    let P : Vec ℕ Global → Type 0 = λ reply. TellsForecast T reply.items in
    let Q : Vec ℕ Global → Type 0 = λ reply. Does csv_records version s C.Request.Flow s reply.items in
    if_done version s s c.args.request r.Flow C.Request.Flow c.in-Flow.is (λ l h. h) c.forecast.result
    (IfOk-weaker c.forecast.result P Q (λ reply t. flow_done version s T reply.items c.cells-in-Flow.ensures t) c.forecast.ensures)

pub returns-in-Version-clause-acts : goal.returns-in-Version-clause-acts
returns-in-Version-clause-acts g c =
    let version = version_tree c.args.version in
    let s = script_of c.args.script.now in
    version_refused version s c.args.request c.error_line-in-Version.result c.in-Version.is c.error_line-in-Version.ensures

pub returns-in-Quit-clause-acts : goal.returns-in-Quit-clause-acts
returns-in-Quit-clause-acts g c =
    let version = version_tree c.args.version in
    let s = script_of c.args.script.now in
    if_said version s s c.args.request r.Quit C.Request.Quit c.in-Quit.is (λ l h. h) c.text_line.result (line (codes "bye")) (quit_done version s) c.text_line.ensures

pub returns-in-Site-clause-acts : goal.returns-in-Site-clause-acts
returns-in-Site-clause-acts g c =
    let version = version_tree c.args.version in
    let s = script_of c.args.script.now in
    if_changed version s (script_of c.site.new.script) c.args.request (r.Site c.in-Site.n) c.site.result c.in-Site.is (C.Request.Site c.in-Site.n) (λ l h. h) refl c.site.ensures.does

pub returns-in-Edit-clause-acts : goal.returns-in-Edit-clause-acts
returns-in-Edit-clause-acts g c =
    let version = version_tree c.args.version in
    let s = script_of c.args.script.now in
    let x = c.in-Edit in
    if_merged version s (script_of c.edit.new.script) c.args.request (r.Edit x.time x.site x.at x.content) c.edit.result x.is (edit_of x.time x.site x.at x.content) (λ l h. h.0) c.edit.ensures.does

pub returns-in-Export-clause-acts : goal.returns-in-Export-clause-acts
returns-in-Export-clause-acts g c =
    let version = version_tree c.args.version in
    let s = script_of c.args.script.now in
    if_exported version s c.args.request r.Export c.export.result c.in-Export.is (λ l h. h) c.export.ensures

pub returns-in-Undo-clause-acts : goal.returns-in-Undo-clause-acts
returns-in-Undo-clause-acts g c =
    let version = version_tree c.args.version in
    let s = script_of c.args.script.now in
    if_changed version s (script_of c.undo.new.script) c.args.request r.Undo c.undo.result c.in-Undo.is C.Request.Undo (λ l h. h) refl c.undo.ensures.does

pub returns-in-Redo-clause-acts : goal.returns-in-Redo-clause-acts
returns-in-Redo-clause-acts g c =
    let version = version_tree c.args.version in
    let s = script_of c.args.script.now in
    if_changed version s (script_of c.redo.new.script) c.args.request r.Redo c.redo.result c.in-Redo.is C.Request.Redo (λ l h. h) refl c.redo.ensures.does

pub returns-in-Show-clause-acts : goal.returns-in-Show-clause-acts
returns-in-Show-clause-acts g c =
    let version = version_tree c.args.version in
    let s = script_of c.args.script.now in
    if_done version s (script_of c.answer_query.new.script) c.args.request (r.Show c.in-Show.a) (C.Request.Show c.in-Show.a) c.in-Show.is (λ l h. h) c.answer_query.result c.answer_query.ensures.does

pub returns-in-View-clause-acts : goal.returns-in-View-clause-acts
returns-in-View-clause-acts g c =
    let version = version_tree c.args.version in
    let s = script_of c.args.script.now in
    if_done version s (script_of c.answer_query-in-View.new.script) c.args.request (r.View c.in-View.range) (C.Request.View c.in-View.range) c.in-View.is (λ l h. h) c.answer_query-in-View.result c.answer_query-in-View.ensures.does

pub returns-in-Calc-clause-acts : goal.returns-in-Calc-clause-acts
returns-in-Calc-clause-acts g c =
    let version = version_tree c.args.version in
    let s = script_of c.args.script.now in
    if_done version s (script_of c.answer_query-in-Calc.new.script) c.args.request r.Calc C.Request.Calculate c.in-Calc.is (λ l h. h) c.answer_query-in-Calc.result c.answer_query-in-Calc.ensures.does

pub returns-in-Oracle-clause-acts : goal.returns-in-Oracle-clause-acts
returns-in-Oracle-clause-acts g c =
    let version = version_tree c.args.version in
    let s = script_of c.args.script.now in
    if_done version s (script_of c.answer_query-in-Oracle.new.script) c.args.request r.Oracle C.Request.ShowOracle c.in-Oracle.is (λ l h. h) c.answer_query-in-Oracle.result c.answer_query-in-Oracle.ensures.does

pub returns-in-Why-clause-acts : goal.returns-in-Why-clause-acts
returns-in-Why-clause-acts g c =
    let version = version_tree c.args.version in
    let s = script_of c.args.script.now in
    if_done version s (script_of c.answer_query-in-Why.new.script) c.args.request (r.Why c.in-Why.a) (C.Request.Why c.in-Why.a) c.in-Why.is (λ l h. h) c.answer_query-in-Why.result c.answer_query-in-Why.ensures.does

pub returns-in-Explain-clause-acts : goal.returns-in-Explain-clause-acts
returns-in-Explain-clause-acts g c =
    let version = version_tree c.args.version in
    let s = script_of c.args.script.now in
    if_done version s (script_of c.answer_query-in-Explain.new.script) c.args.request (r.Explain c.in-Explain.a) (C.Request.Explain c.in-Explain.a) c.in-Explain.is (λ l h. h) c.answer_query-in-Explain.result c.answer_query-in-Explain.ensures.does

pub returns-in-Nothing-clause-spends : goal.returns-in-Nothing-clause-spends
returns-in-Nothing-clause-spends g c =
    let version = version_tree c.args.version in
    let K = known_of c.args.script.now in
    untouched_all version K c.args.steps.now c.args.request r.Nothing C.Request.Nothing c.in-Nothing.is (λ l h. h) refl refl c.new.result.items

pub returns-in-Set-clause-spends : goal.returns-in-Set-clause-spends
returns-in-Set-clause-spends g c =
    let version = version_tree c.args.version in
    let K = known_of c.args.script.now in
    let a = c.in-Set.a in
    let content = c.in-Set.content in
    at_steps version K (known_of c.set.new.script) c.args.steps.now c.args.request c.set.result
    (if_touched version K (known_of c.set.new.script) c.args.request (r.Set a content) (C.Request.Set a (content_tree content)) c.in-Set.is (λ l h. h.0) c.set.result refl c.set.ensures.touches)

pub returns-in-Clear-clause-spends : goal.returns-in-Clear-clause-spends
returns-in-Clear-clause-spends g c =
    let version = version_tree c.args.version in
    let K = known_of c.args.script.now in
    at_steps version K (known_of c.clear.new.script) c.args.steps.now c.args.request c.clear.result
    (if_touched version K (known_of c.clear.new.script) c.args.request (r.Clear c.in-Clear.range) (C.Request.Clear c.in-Clear.range) c.in-Clear.is (λ l h. h) c.clear.result refl c.clear.ensures.touches)

pub returns-in-Get-clause-spends : goal.returns-in-Get-clause-spends
returns-in-Get-clause-spends g c =
    let version = version_tree c.args.version in
    let K = known_of c.args.script.now in
    at_steps version K K c.args.steps.now c.args.request c.get.result
    (if_untouched version K c.args.request (r.Get c.in-Get.a) (C.Request.Get c.in-Get.a) c.get.result c.in-Get.is (λ l h. h) refl refl)

pub returns-in-List-clause-spends : goal.returns-in-List-clause-spends
returns-in-List-clause-spends g c =
    let version = version_tree c.args.version in
    let K = known_of c.args.script.now in
    at_steps version K K c.args.steps.now c.args.request c.list.result
    (if_untouched version K c.args.request r.List C.Request.ListAll c.list.result c.in-List.is (λ l h. h) refl refl)

pub returns-in-Flow-clause-spends : goal.returns-in-Flow-clause-spends
returns-in-Flow-clause-spends g c =
    let version = version_tree c.args.version in
    let K = known_of c.args.script.now in
    at_steps version K K c.args.steps.now c.args.request c.forecast.result
    (if_untouched version K c.args.request r.Flow C.Request.Flow c.forecast.result c.in-Flow.is (λ l h. h) refl refl)

pub returns-in-Import-clause-spends : goal.returns-in-Import-clause-spends
returns-in-Import-clause-spends g c =
    at_steps (version_tree c.args.version) (known_of c.args.script.now) (known_of c.args.script.now) c.args.steps.now c.args.request c.error_line.result
    (if_refused (version_tree c.args.version) (known_of c.args.script.now) c.args.request c.error_line.result (codes "command") c.error_line.ensures)

pub returns-in-Version-clause-spends : goal.returns-in-Version-clause-spends
returns-in-Version-clause-spends g c =
    at_steps (version_tree c.args.version) (known_of c.args.script.now) (known_of c.args.script.now) c.args.steps.now c.args.request c.error_line-in-Version.result
    (if_refused (version_tree c.args.version) (known_of c.args.script.now) c.args.request c.error_line-in-Version.result (codes "command") c.error_line-in-Version.ensures)

pub returns-in-Quit-clause-spends : goal.returns-in-Quit-clause-spends
returns-in-Quit-clause-spends g c =
    let version = version_tree c.args.version in
    let K = known_of c.args.script.now in
    at_steps version K K c.args.steps.now c.args.request c.text_line.result
    (if_untouched version K c.args.request r.Quit C.Request.Quit c.text_line.result c.in-Quit.is (λ l h. h) refl refl)

pub returns-in-Site-clause-spends : goal.returns-in-Site-clause-spends
returns-in-Site-clause-spends g c =
    let version = version_tree c.args.version in
    let K = known_of c.args.script.now in
    at_steps version K (known_of c.site.new.script) c.args.steps.now c.args.request c.site.result
    (if_touched version K (known_of c.site.new.script) c.args.request (r.Site c.in-Site.n) (C.Request.Site c.in-Site.n) c.in-Site.is (λ l h. h) c.site.result refl c.site.ensures.touches)

pub returns-in-Edit-clause-spends : goal.returns-in-Edit-clause-spends
returns-in-Edit-clause-spends g c =
    let version = version_tree c.args.version in
    let K = known_of c.args.script.now in
    let x = c.in-Edit in
    at_steps version K (known_of c.edit.new.script) c.args.steps.now c.args.request c.edit.result
    (if_touched version K (known_of c.edit.new.script) c.args.request (r.Edit x.time x.site x.at x.content) (C.Request.Merge (edit_of x.time x.site x.at x.content)) x.is (λ l h. h.0) c.edit.result refl c.edit.ensures.touches)

pub returns-in-Export-clause-spends : goal.returns-in-Export-clause-spends
returns-in-Export-clause-spends g c =
    let version = version_tree c.args.version in
    let K = known_of c.args.script.now in
    at_steps version K K c.args.steps.now c.args.request c.export.result
    (if_untouched version K c.args.request r.Export C.Request.Export c.export.result c.in-Export.is (λ l h. h) refl refl)

pub returns-in-Undo-clause-spends : goal.returns-in-Undo-clause-spends
returns-in-Undo-clause-spends g c =
    let version = version_tree c.args.version in
    let K = known_of c.args.script.now in
    at_steps version K (known_of c.undo.new.script) c.args.steps.now c.args.request c.undo.result
    (if_touched version K (known_of c.undo.new.script) c.args.request r.Undo C.Request.Undo c.in-Undo.is (λ l h. h) c.undo.result refl c.undo.ensures.touches)

pub returns-in-Redo-clause-spends : goal.returns-in-Redo-clause-spends
returns-in-Redo-clause-spends g c =
    let version = version_tree c.args.version in
    let K = known_of c.args.script.now in
    at_steps version K (known_of c.redo.new.script) c.args.steps.now c.args.request c.redo.result
    (if_touched version K (known_of c.redo.new.script) c.args.request r.Redo C.Request.Redo c.in-Redo.is (λ l h. h) c.redo.result refl c.redo.ensures.touches)

pub returns-in-Show-clause-spends : goal.returns-in-Show-clause-spends
returns-in-Show-clause-spends g c =
    let version = version_tree c.args.version in
    let K = known_of c.args.script.now in
    if_calculated version K (known_of c.answer_query.new.script) c.args.request (r.Show c.in-Show.a) (C.Request.Show c.in-Show.a) c.in-Show.is (λ l h. h) c.args.steps.now c.answer_query.new.steps c.answer_query.result refl c.answer_query.ensures.spends

pub returns-in-View-clause-spends : goal.returns-in-View-clause-spends
returns-in-View-clause-spends g c =
    let version = version_tree c.args.version in
    let K = known_of c.args.script.now in
    if_calculated version K (known_of c.answer_query-in-View.new.script) c.args.request (r.View c.in-View.range) (C.Request.View c.in-View.range) c.in-View.is (λ l h. h) c.args.steps.now c.answer_query-in-View.new.steps c.answer_query-in-View.result refl c.answer_query-in-View.ensures.spends

pub returns-in-Calc-clause-spends : goal.returns-in-Calc-clause-spends
returns-in-Calc-clause-spends g c =
    let version = version_tree c.args.version in
    let K = known_of c.args.script.now in
    if_calculated version K (known_of c.answer_query-in-Calc.new.script) c.args.request r.Calc C.Request.Calculate c.in-Calc.is (λ l h. h) c.args.steps.now c.answer_query-in-Calc.new.steps c.answer_query-in-Calc.result refl c.answer_query-in-Calc.ensures.spends

pub returns-in-Oracle-clause-spends : goal.returns-in-Oracle-clause-spends
returns-in-Oracle-clause-spends g c =
    let version = version_tree c.args.version in
    let K = known_of c.args.script.now in
    if_calculated version K (known_of c.answer_query-in-Oracle.new.script) c.args.request r.Oracle C.Request.ShowOracle c.in-Oracle.is (λ l h. h) c.args.steps.now c.answer_query-in-Oracle.new.steps c.answer_query-in-Oracle.result refl c.answer_query-in-Oracle.ensures.spends

pub returns-in-Why-clause-spends : goal.returns-in-Why-clause-spends
returns-in-Why-clause-spends g c =
    let version = version_tree c.args.version in
    let K = known_of c.args.script.now in
    if_calculated version K (known_of c.answer_query-in-Why.new.script) c.args.request (r.Why c.in-Why.a) (C.Request.Why c.in-Why.a) c.in-Why.is (λ l h. h) c.args.steps.now c.answer_query-in-Why.new.steps c.answer_query-in-Why.result refl c.answer_query-in-Why.ensures.spends

pub returns-in-Explain-clause-spends : goal.returns-in-Explain-clause-spends
returns-in-Explain-clause-spends g c =
    let version = version_tree c.args.version in
    let K = known_of c.args.script.now in
    if_calculated version K (known_of c.answer_query-in-Explain.new.script) c.args.request (r.Explain c.in-Explain.a) (C.Request.Explain c.in-Explain.a) c.in-Explain.is (λ l h. h) c.args.steps.now c.answer_query-in-Explain.new.steps c.answer_query-in-Explain.result refl c.answer_query-in-Explain.ensures.spends
