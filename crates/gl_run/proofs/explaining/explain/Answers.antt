use Rattle.std.proofs.Common.{ℕ, Vec, Global}
use Rattle.std.proofs.lemmas.Result.{IfOk-weaker}
use Rattle.gl_protocol.specs.Scripts.Commands as C
use Rattle.gl_ast.specs.View.{version_tree}
use Rattle.gl_cells.specs.Sheet.{sheet}
use Rattle.gl_run.specs.Replies.{IsExplanation, RepliesBy}
use Rattle.gl_run.proofs.Querying.{explain_replies}
use Rattle.gl_run.proofs.explaining.explain.Goals as goal
use Rattle.gl_calculus.specs.Evaluation.World.{world}

pub returns-clause-replies : goal.returns-clause-replies
returns-clause-replies g c =
    let V = version_tree c.args.version in
    let S = sheet c.cells.result.now in
    let w = c.in-Some.w.now in
    let a = c.args.a in
    let n = c.args.steps.now in
    let m = c.explain_by.new.steps in
    let (rounds, holds) = c.requires in
    let P : Vec ℕ Global → Type 0 = λ reply. IsExplanation (world V S w) a n m reply.items in
    let Q : Vec ℕ Global → Type 0 = λ reply. (i : ℕ) → RepliesBy c.args.calc.now i (C.Request.Explain a) reply.items in
    IfOk-weaker c.explain_by.result P Q (λ reply x. explain_replies V c.args.calc.now a w S c.cells.ensures c.in-Some.ensures n m rounds reply.items holds x) c.explain_by.ensures
