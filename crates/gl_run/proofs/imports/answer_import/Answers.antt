use Rattle.std.specs.Prelude.{codes}
use Rattle.std.proofs.Common.{◌≡◌, ℕ, Some, Vec, Global}
use Rattle.std.proofs.lemmas.Result.{IfOk-weaker}
use Rattle.gl_calculus.specs.Formulas.Formula.{Version, One}
use Rattle.gl_language.specs.Texts.Text.{Bytes}
use Rattle.gl_run.proofs.Keeping.{kept_by}
use Rattle.gl_run.specs.Replies.{HasPlace}
use Rattle.gl_protocol.specs.Framing.Framing.{Import}
use Rattle.gl_protocol.specs.Scripts.Acts.{Acts}
use Rattle.gl_protocol.specs.Scripts.Commands.{error_line}
use Rattle.gl_protocol.specs.Run.Records.{csv_records}
use Rattle.gl_run.proofs.Importing.{import_nowhere}
use Rattle.gl_run.specs.Script.{known_of, script_of}
use Rattle.gl_protocol.specs.Run.Spends.{Spends}
use Rattle.gl_run.proofs.Spending.{refused_spends}
use Rattle.gl_run.proofs.imports.answer_import.Goals as goal

pub returns-in-None-clause-acts : goal.returns-in-None-clause-acts
returns-in-None-clause-acts c =
    let s = script_of c.args.script.now in
    let l = c.args.header.now in
    let p = c.args.payload.now in
    let P : Vec ℕ Global → Type 0 = λ reply. reply.items ≡ error_line (codes "address") in
    let Q : Vec ℕ Global → Type 0 = λ reply. (version : Version) → Acts csv_records version s (Import l p) s reply.items in
    IfOk-weaker c.error_line.result P Q (λ reply e version. import_nowhere version s l p reply.items (rw c.in-None.is at c.place.ensures) e) c.error_line.ensures

pub returns-in-None-clause-spends : goal.returns-in-None-clause-spends
returns-in-None-clause-spends c =
    let K = known_of c.args.script.now in
    let l = c.args.header.now in
    let p = c.args.payload.now in
    let P : Vec ℕ Global → Type 0 = λ reply. reply.items ≡ error_line (codes "address") in
    let Q : Vec ℕ Global → Type 0 = λ reply. (version : Version) (n : ℕ) → Spends version K (Import l p) reply.items K n n in
    IfOk-weaker c.error_line.result P Q (λ reply e version n. refused_spends version K n (Import l p) (codes "address") reply.items e) c.error_line.ensures

pub returns-in-Some-clause-kept : goal.returns-in-Some-clause-kept
returns-in-Some-clause-kept c =
    let s = script_of c.args.script.now in
    let s' = script_of c.import_at.new.script in
    let l = c.args.header.now in
    let p = c.args.payload.now in
    let at_place = rw c.in-Some.is at c.place.ensures in
    let P : Vec ℕ Global → Type 0 = λ reply. (version : Version) (l : Bytes) → HasPlace l (Some c.in-Some.at) → Acts csv_records version s (Import l p) s' reply.items in
    let Q : Vec ℕ Global → Type 0 = λ reply. Acts csv_records One s (Import l p) s' reply.items in
    let acts = IfOk-weaker c.import_at.result P Q (λ reply a. a One l at_place) c.import_at.ensures.acts in
    kept_by (λ (v : Vec ℕ Global). v.items) One s s' (Import l p) c.import_at.result c.requires.kept acts c.import_at.ensures.err

pub returns-in-Some-clause-acts : goal.returns-in-Some-clause-acts
returns-in-Some-clause-acts c =
    let s = script_of c.args.script.now in
    let s' = script_of c.import_at.new.script in
    let l = c.args.header.now in
    let p = c.args.payload.now in
    let at_place = rw c.in-Some.is at c.place.ensures in
    let P : Vec ℕ Global → Type 0 = λ reply. (version : Version) (l : Bytes) → HasPlace l (Some c.in-Some.at) → Acts csv_records version s (Import l p) s' reply.items in
    let Q : Vec ℕ Global → Type 0 = λ reply. (version : Version) → Acts csv_records version s (Import l p) s' reply.items in
    IfOk-weaker c.import_at.result P Q (λ reply a version. a version l at_place) c.import_at.ensures.acts

pub returns-in-Some-clause-spends : goal.returns-in-Some-clause-spends
returns-in-Some-clause-spends c =
    let K = known_of c.args.script.now in
    let K' = known_of c.import_at.new.script in
    let l = c.args.header.now in
    let p = c.args.payload.now in
    let at_place = rw c.in-Some.is at c.place.ensures in
    let P : Vec ℕ Global → Type 0 = λ reply. (version : Version) (l : Bytes) (n : ℕ) → HasPlace l (Some c.in-Some.at) → Spends version K (Import l p) reply.items K' n n in
    let Q : Vec ℕ Global → Type 0 = λ reply. (version : Version) (n : ℕ) → Spends version K (Import l p) reply.items K' n n in
    IfOk-weaker c.import_at.result P Q (λ reply a version n. a version l n at_place) c.import_at.ensures.spends
