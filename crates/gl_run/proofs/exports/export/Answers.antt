use Rattle.std.specs.Prelude.{codes}
use Rattle.std.proofs.Common.{◌≡◌, ℕ, Vec, Global, option_map, ap}
use Rattle.std.proofs.lemmas.Result.{IfOk-weaker}
use Rattle.gl_protocol.specs.Scripts.Commands.{error_line}
use Rattle.gl_protocol.specs.Replies.Tables.{export_text}
use Rattle.gl_merge.specs.Replica.{registers_of, replica_tree}
use Rattle.gl_run.specs.Merged.{IsExport}
use Rattle.gl_run.specs.Script.{script_of}
use Rattle.gl_run.proofs.Joining.{export_some, export_none}
use Rattle.gl_run.proofs.exports.export.Goals as goal

pub returns-in-Some : goal.returns-in-Some
returns-in-Some c =
    let s = script_of c.args.script.now in
    let r = c.in-Some.replica in
    let W : Vec ℕ Global → Type 0 = λ reply. reply.items ≡ export_text (registers_of r) in
    let Q : Vec ℕ Global → Type 0 = λ reply. IsExport s reply.items in
    IfOk-weaker c.edit_list.result W Q (λ reply p. export_some s (replica_tree r) reply.items (ap (option_map replica_tree) c.in-Some.is) p) c.edit_list.ensures

pub returns-in-None : goal.returns-in-None
returns-in-None c =
    let s = script_of c.args.script.now in
    let W : Vec ℕ Global → Type 0 = λ reply. reply.items ≡ error_line (codes "site") in
    let Q : Vec ℕ Global → Type 0 = λ reply. IsExport s reply.items in
    IfOk-weaker c.error_line.result W Q (λ reply p. export_none s reply.items (ap (option_map replica_tree) c.in-None.is) p) c.error_line.ensures
