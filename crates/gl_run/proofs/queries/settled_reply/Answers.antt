use Rattle.std.specs.Prelude.{◌++◌, codes}
use Rattle.std.specs.Fmt.{decimal}
use Rattle.std.proofs.Common.{◌≡◌, ℕ, Vec, Global}
use Rattle.std.proofs.lemmas.Result.{IfOk-weaker}
use Rattle.gl_protocol.specs.Scripts.Commands as C
use Rattle.gl_protocol.specs.Replies.Tables.{line}
use Rattle.gl_run.specs.Replies.{RepliesBy}
use Rattle.gl_run.proofs.Querying.{calc_replies}
use Rattle.gl_run.proofs.queries.settled_reply.Goals as goal

pub returns-in-Calc-clause-replies : goal.returns-in-Calc-clause-replies
returns-in-Calc-clause-replies g c =
    let P : Vec ℕ Global → Type 0 = λ reply. reply.items ≡ line (codes "settled " ++ decimal c.args.rounds) in
    let Q : Vec ℕ Global → Type 0 = λ reply. RepliesBy c.args.calc.now c.args.rounds C.Request.Calculate reply.items in
    rw c.in-Calc.is (IfOk-weaker c.rounds_line.result P Q (λ reply e. calc_replies c.args.calc.now reply.items c.args.rounds e) c.rounds_line.ensures)
