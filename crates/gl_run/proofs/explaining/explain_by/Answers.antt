use Rattle.std.proofs.Common.{◌≡◌, ℕ, Vec, Global, ap, sym, subst, ◌∙◌}
use Rattle.std.proofs.lemmas.Result.{IfOk-weaker}
use Rattle.gl_calculus.specs.Explanation.Certificate as E
use Rattle.gl_calculus.specs.Explanation.Certificate.{Explains, verdict}
use Rattle.gl_protocol.specs.Replies.Explanations.{explanation_text}
use Rattle.gl_cert.specs.View.{cert_tree}
use Rattle.gl_demand.specs.View.{budget_tree}
use Rattle.gl_calculus.specs.Steps.Walk.{AllowsWalk}
use Rattle.gl_explain.specs.View.{explained_tree}
use Rattle.laws_calculus.proofs.Explanation.Explaining.{walk_accepted}
use Rattle.gl_run.specs.Replies.{IsExplanation, verdict_text}
use Rattle.gl_run.proofs.explaining.explain_by.Goals as goal
use Rattle.gl_demand.specs.Evaluators.{world_of}

pub unreachable-requires : goal.unreachable-requires
unreachable-requires g c =
    let (i, answer) = c.requires in
    let (t, is) = c.in-Ok-Work.ensures.certified i answer in
    let no : E.Work ≡ E.Cert t = sym (ap explained_tree c.in-Ok-Work.field-0-is) ∙ is in
    cc no

pub unreachable-requires-in-Ok-Aborts : goal.unreachable-requires-in-Ok-Aborts
unreachable-requires-in-Ok-Aborts g c =
    let (i, answer) = c.requires in
    let (t, is) = c.in-Ok-Aborts.ensures.certified i answer in
    let no : E.Aborts (budget_tree c.in-Ok-Aborts.field-0-0) ≡ E.Cert t = sym (ap explained_tree c.in-Ok-Aborts.field-0-is) ∙ is in
    cc no

pub returns-in-Ok-Cert : goal.returns-in-Ok-Cert
returns-in-Ok-Cert g c =
    let W = world_of c.args.evaluator.now in
    let a = c.args.a in
    let t = cert_tree c.in-Ok-Cert.cert in
    let n = c.args.steps.now in
    let k = c.certificate.new.steps in
    let m = c.explain_checked.new.steps in
    let is : explained_tree c.in-Ok-Cert.field-0 ≡ E.Cert t = ap explained_tree c.in-Ok-Cert.field-0-is in
    let P : Vec ℕ Global → Type 0 = λ reply. reply.items ≡ explanation_text (verdict_text (verdict W a t)) t in
    let Q : Vec ℕ Global → Type 0 = λ reply. IsExplanation W a n m reply.items in
    let explains = subst (Explains W a) is c.in-Ok-Cert.ensures.explained in
    IfOk-weaker c.explain_checked.result P Q
    (λ reply e. (
      record {
        certificate = t;
        explains = explains;
        found = k;
        walk = subst (λ x. AllowsWalk W a x n k) is c.in-Ok-Cert.ensures.steps;
        check = c.explain_checked.ensures.steps;
        later = c.explain_checked.ensures.later;
      },
      e ∙ ap (λ v. explanation_text (verdict_text v) t) (walk_accepted W a t explains),
    ))
    c.explain_checked.ensures.reply
