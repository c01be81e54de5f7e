use Rattle.std.proofs.Common.{◌≡◌, ℕ, Vec, Global}
use Rattle.std.proofs.lemmas.Result.{IfOk-weaker}
use Rattle.gl_language.specs.Texts.Text.{shown_text}
use Rattle.gl_protocol.specs.Scripts.Commands as C
use Rattle.gl_protocol.specs.Replies.Tables.{line}
use Rattle.gl_value.specs.Made.{shown_tree}
use Rattle.gl_run.specs.Replies.{RepliesBy}
use Rattle.gl_run.proofs.Querying.{show_replies}
use Rattle.gl_run.proofs.queries.show.Goals as goal

pub returns-in-Ok : goal.returns-in-Ok
returns-in-Ok c =
    let tree = shown_tree c.in-Ok.shown in
    let P : Vec ℕ Global → Type 0 = λ reply. reply.items ≡ line (shown_text tree) in
    let Q : Vec ℕ Global → Type 0 = λ reply. (rounds : ℕ) → RepliesBy c.args.calc.now rounds (C.Request.Show c.args.a) reply.items in
    IfOk-weaker c.shown_line.result P Q (λ reply e. show_replies c.args.calc.now reply.items c.args.a tree c.in-Ok.ensures e) c.shown_line.ensures
