use Rattle.std.proofs.Common.{◌≡◌, [], None, ap, sym, ◌∙◌}
use Rattle.std.proofs.lemmas.Result.{IfOk-weaker}
use Rattle.gl_calculus.specs.Calculation.Calculation.{IsShown}
use Rattle.gl_calculus.specs.Evaluation.World.{world}
use Rattle.gl_calculus.specs.Evaluation.Evaluation.{program}
use Rattle.gl_calculus.specs.Evaluation.Key.{same_key}
use Rattle.gl_calculus.specs.Evaluation.SameOutcome.{same_outcome}
use Rattle.gl_calculus.specs.Explanation.Certificate as E
use Rattle.gl_calculus.specs.Explanation.Certificate.{is_proper, judged, says_so, says}
use Rattle.gl_calculus.specs.Explanation.Walk.{first_free, first_stray}
use Rattle.laws_calculus.proofs.Explanation.Explaining.{accepted_shows}
use Rattle.gl_ast.specs.View.{version_tree}
use Rattle.gl_cells.specs.Sheet.{sheet}
use Rattle.gl_cert.specs.Claims.{claim_trees}
use Rattle.gl_cert.specs.View.{cert_tree, verdict_tree}
use Rattle.gl_cert.proofs.checking.check.Goals as goal

pub returns-in-Ok-None-clause-shows : goal.returns-in-Ok-None-clause-shows
returns-in-Ok-None-clause-shows g c =
    let v = version_tree c.args.version in
    let S = sheet c.args.cells.now in
    let w = c.args.w.now in
    let a = c.args.a in
    let t = cert_tree c.args.c.now in
    let free = first_free same_key same_outcome (is_proper S) (program (world v S w)) t.notes t.loops t.loops in
    let said = says_so t.shown (says S w a t.notes t.loops) in
    let none = sym c.in-Ok-None.field-0-is ∙ c.in-Ok-None.ensures.stray ∙ ap (λ ns. first_stray same_key same_outcome (is_proper S) (program (world v S w)) [] (claim_trees ns)) c.deref.ensures.value in
    IfOk-weaker c.check_loops.result (λ x. verdict_tree x ≡ judged None free said) (λ x. verdict_tree x ≡ E.Accepted → IsShown (world v S w) a t.shown)
    (λ x e h. accepted_shows (world v S w) a t (sym (e ∙ ap (λ o. judged o free said) none) ∙ h)) c.check_loops.ensures.verdict
