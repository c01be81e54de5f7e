use Rattle.std.proofs.Common.{◌≡◌, ℕ, subst}
use Rattle.std.proofs.lemmas.Result.{IfOk-weaker}
use Rattle.gl_calculus.specs.Calculation.Calculation as C
use Rattle.gl_calculus.specs.Calculation.Calculation.{IsAnswer}
use Rattle.gl_calculus.specs.Explanation.Certificate as E
use Rattle.gl_calculus.specs.Explanation.Certificate.{Explains, verdict}
use Rattle.gl_calculus.specs.Evaluation.World.{world}
use Rattle.laws_calculus.proofs.Explanation.Explaining.{walk_accepted, settled_certifies}
use Rattle.gl_ast.specs.View.{version_tree}
use Rattle.gl_cells.specs.Sheet.{sheet}
use Rattle.gl_explain.specs.View.{explained_tree}
use Rattle.gl_explain.specs.Walked.{IsExplained}
use Rattle.gl_explain.proofs.explaining.certificate.Goals as goal

pub returns-clause-accepted : goal.returns-clause-accepted
returns-clause-accepted g c =
    let v = version_tree c.args.version in
    let S = sheet c.args.cells.now in
    let w = c.args.w.now in
    let a = c.args.a in
    IfOk-weaker c.explained.result
    (λ x. IsExplained (world v S w) a c.args.steps.now c.explained.new.steps (explained_tree x))
    (λ x. (t : E.Certificate) → explained_tree x ≡ E.Cert t → verdict (world v S w) a t ≡ E.Accepted)
    (λ x h t e. walk_accepted (world v S w) a t (subst (Explains (world v S w) a) e h.explains))
    c.explained.ensures.explained

pub returns-clause-certified : goal.returns-clause-certified
returns-clause-certified g c =
    let v = version_tree c.args.version in
    let S = sheet c.args.cells.now in
    let w = c.args.w.now in
    let a = c.args.a in
    IfOk-weaker c.explained.result
    (λ x. IsExplained (world v S w) a c.args.steps.now c.explained.new.steps (explained_tree x))
    (λ x. (i : ℕ) → IsAnswer v S (C.Settled w i) → (t : E.Certificate) × (explained_tree x ≡ E.Cert t))
    (λ x h i s. settled_certifies (world v S w) i a (explained_tree x) c.formulas-formulas.ensures.ordered s h.explains)
    c.explained.ensures.explained
