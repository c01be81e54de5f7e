use Rattle.std.proofs.Common.{◌≡◌, ℕ, None, Vec, Global}
use Rattle.gl_language.specs.Texts.Text.{Bytes}
use Rattle.gl_protocol.specs.Framing.Header.{payload_len}
use Rattle.gl_run.proofs.Keeping.{kept_by}
use Rattle.std.proofs.lemmas.Result.{IfOk-weaker}
use Rattle.gl_protocol.specs.Framing.Framing.{Line}
use Rattle.gl_protocol.specs.Scripts.Acts.{Acts}
use Rattle.gl_ast.specs.View.{version_tree}
use Rattle.gl_protocol.specs.Run.Records.{csv_records}
use Rattle.gl_script.specs.Command.{Asks, word_of}
use Rattle.gl_run.specs.Replies.{IsRefusal}
use Rattle.gl_run.specs.Script.{known_of, script_of}
use Rattle.gl_run.proofs.Asking.{asked_proper}
use Rattle.gl_run.proofs.Refusing.{refusal_acts}
use Rattle.gl_protocol.specs.Run.Spends.{Spends}
use Rattle.gl_run.proofs.Spending.{word_spends}
use Rattle.gl_run.proofs.answers.answer_line.Goals as goal

pub returns-in-Err-clause-acts : goal.returns-in-Err-clause-acts
returns-in-Err-clause-acts g c =
    let version = version_tree c.args.version in
    let s = script_of c.args.script.now in
    let l = c.args.line.now in
    let P : Vec ℕ Global → Type 0 = λ reply. IsRefusal (word_of c.in-Err.fault) reply.items in
    let Q : Vec ℕ Global → Type 0 = λ reply. Acts csv_records version s (Line l) s reply.items in
    IfOk-weaker c.refusal.result P Q (λ reply h. refusal_acts version s l reply.items c.in-Err.fault c.in-Err.ensures h) c.refusal.ensures

pub returns-in-Err-clause-spends : goal.returns-in-Err-clause-spends
returns-in-Err-clause-spends g c =
    let version = version_tree c.args.version in
    let K = known_of c.args.script.now in
    let n = c.args.steps.now in
    let l = c.args.line.now in
    let P : Vec ℕ Global → Type 0 = λ reply. IsRefusal (word_of c.in-Err.fault) reply.items in
    let Q : Vec ℕ Global → Type 0 = λ reply. Spends version K (Line l) reply.items K n n in
    IfOk-weaker c.refusal.result P Q (λ reply h. word_spends version K n (Line l) (word_of c.in-Err.fault) reply.items h) c.refusal.ensures

pub answer_request-requires-clause-proper : goal.answer_request-requires-clause-proper
answer_request-requires-clause-proper g c = asked_proper c.args.line.now c.in-Ok.request c.in-Ok.ensures

pub returns-in-Ok-clause-kept : goal.returns-in-Ok-clause-kept
returns-in-Ok-clause-kept g c =
    let s = script_of c.args.script.now in
    let s' = script_of c.answer_request.new.script in
    let l = c.args.line.now in
    let version = version_tree c.args.version in
    let P : Vec ℕ Global → Type 0 = λ reply. (l : Bytes) → payload_len l ≡ None → Asks l c.in-Ok.request → Acts csv_records version s (Line l) s' reply.items in
    let Q : Vec ℕ Global → Type 0 = λ reply. Acts csv_records version s (Line l) s' reply.items in
    let acts = IfOk-weaker c.answer_request.result P Q (λ reply a. a l c.requires.line c.in-Ok.ensures) c.answer_request.ensures.acts in
    kept_by (λ (v : Vec ℕ Global). v.items) version s s' (Line l) c.answer_request.result c.requires.kept acts c.answer_request.ensures.err
