use Rattle.std.proofs.Common.{ap, ◌∙◌}
use Rattle.gl_calculus.specs.Formulas.Formula.{content}
use Rattle.gl_calculus.specs.Evaluation.Key.{same_key}
use Rattle.gl_calculus.specs.Explanation.Certificate.{shown_by_note}
use Rattle.gl_calculus.specs.Explanation.Walk.{noted}
use Rattle.gl_cells.specs.Sheet.{sheet}
use Rattle.gl_demand.specs.View.{key_tree}
use Rattle.gl_cert.specs.Notes.{claims}
use Rattle.gl_cert.proofs.saying.key_shown.Goals as goal

pub returns-in-None : goal.returns-in-None
returns-in-None c =
    let w = c.args.w.now in
    let a = c.args.a in
    let x = content (sheet c.args.cells.now) a in
    let n = noted same_key (claims c.args.notes.now) (key_tree c.args.key.now) in
    c.unnoted_shown.ensures w ∙ ap (λ o. shown_by_note w a x o c.is_among-is_loop.result) c.in-None.ensures.value ∙ ap (shown_by_note w a x n) c.is_among-is_loop.ensures
