use Rattle.std.proofs.Common.{◌≡◌, ℕ, Vec, Global}
use Rattle.std.proofs.lemmas.Result.{IfOk-weaker}
use Rattle.gl_protocol.specs.Scripts.Commands as C
use Rattle.gl_protocol.specs.Scripts.Commands.{why_text}
use Rattle.gl_protocol.specs.Replies.Tables.{line}
use Rattle.gl_calc.specs.Why.{why_tree}
use Rattle.gl_run.specs.Replies.{RepliesBy}
use Rattle.gl_run.proofs.Querying.{why_replies}
use Rattle.gl_run.proofs.queries.why.Goals as goal

pub returns : goal.returns
returns c =
    let tree = why_tree c.in-Some.why in
    let P : Vec ℕ Global → Type 0 = λ reply. reply.items ≡ line (why_text tree) in
    let Q : Vec ℕ Global → Type 0 = λ reply. (rounds : ℕ) → RepliesBy c.args.calc.now rounds (C.Request.Why c.args.a) reply.items in
    IfOk-weaker c.why_line.result P Q (λ reply e. why_replies c.args.calc.now reply.items c.args.a tree c.in-Some.ensures e) c.why_line.ensures
