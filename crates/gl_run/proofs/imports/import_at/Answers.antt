use Rattle.std.proofs.Common.{ℕ, List, map, Vec, Global, Some}
use Rattle.std.proofs.lemmas.Result.{IfOk-weaker}
use Rattle.gl_calculus.specs.Formulas.Formula.{Version}
use Rattle.gl_protocol.specs.Framing.Framing.{Import}
use Rattle.gl_protocol.specs.Scripts.Acts.{Acts}
use Rattle.laws_protocol.proofs.Scripts.Rising.{imported_rise}
use Rattle.gl_cells.specs.Sheet.{sheet}
use Rattle.gl_protocol.specs.Run.Records.{csv_records, records_of}
use Rattle.gl_run.specs.Changed.{IsChanged, imported_state}
use Rattle.gl_run.specs.Replies.{HasPlace, IsRefusal, csv_word}
use Rattle.gl_run.specs.Script.{known_of, script_of}
use Rattle.gl_run.proofs.Importing.{import_put, import_refused}
use Rattle.gl_protocol.specs.Run.Spends.{Spends, Touches}
use Rattle.gl_run.proofs.Spending.{import_spends, word_spends}
use Rattle.gl_run.proofs.imports.import_at.Goals as goal

pub returns-in-Ok-clause-acts : goal.returns-in-Ok-clause-acts
returns-in-Ok-clause-acts c =
    let s = script_of c.args.script.now in
    let s' = script_of c.put_fields.new.script in
    let cs = sheet c.in-Ok.list.items in
    let p = c.args.payload.now in
    let P : Vec ℕ Global → Type 0 = λ reply. IsChanged (imported_state s cs) s s' reply.items in
    let Q : Vec ℕ Global → Type 0 = λ reply. (version : Version) (l : List ℕ) → HasPlace l (Some c.args.at) → Acts csv_records version s (Import l p) s' reply.items in
    IfOk-weaker c.put_fields.result P Q (λ reply h version l at. import_put version s s' l p reply.items c.args.at cs at c.in-Ok.ensures.answers h) c.put_fields.ensures.does

pub returns-in-Err-clause-acts : goal.returns-in-Err-clause-acts
returns-in-Err-clause-acts c =
    let s = script_of c.args.script.now in
    let p = c.args.payload.now in
    let P : Vec ℕ Global → Type 0 = λ reply. IsRefusal (csv_word c.in-Err.fault) reply.items in
    let Q : Vec ℕ Global → Type 0 = λ reply. (version : Version) (l : List ℕ) → HasPlace l (Some c.args.at) → Acts csv_records version s (Import l p) s reply.items in
    IfOk-weaker c.csv_refusal.result P Q (λ reply h version l at. import_refused version s l p reply.items c.args.at c.in-Err.fault at c.in-Err.ensures.answers h) c.csv_refusal.ensures

pub returns-in-Ok-clause-spends : goal.returns-in-Ok-clause-spends
returns-in-Ok-clause-spends c =
    let K = known_of c.args.script.now in
    let K' = known_of c.put_fields.new.script in
    let cs = sheet c.in-Ok.list.items in
    let p = c.args.payload.now in
    let P : Vec ℕ Global → Type 0 = λ reply. Touches reply.items (map (λ e. e.0) cs) K K' in
    let Q : Vec ℕ Global → Type 0 = λ reply. (version : Version) (l : List ℕ) (n : ℕ) → HasPlace l (Some c.args.at) → Spends version K (Import l p) reply.items K' n n in
    IfOk-weaker c.put_fields.result P Q (λ reply h version l n at. import_spends version K K' n l p reply.items c.args.at cs at c.in-Ok.ensures.answers h) c.put_fields.ensures.touches

pub returns-in-Err-clause-spends : goal.returns-in-Err-clause-spends
returns-in-Err-clause-spends c =
    let K = known_of c.args.script.now in
    let p = c.args.payload.now in
    let P : Vec ℕ Global → Type 0 = λ reply. IsRefusal (csv_word c.in-Err.fault) reply.items in
    let Q : Vec ℕ Global → Type 0 = λ reply. (version : Version) (l : List ℕ) (n : ℕ) → HasPlace l (Some c.args.at) → Spends version K (Import l p) reply.items K n n in
    IfOk-weaker c.csv_refusal.result P Q (λ reply h version l n at. word_spends version K n (Import l p) (csv_word c.in-Err.fault) reply.items h) c.csv_refusal.ensures

pub put_fields-requires-clause-ordered : goal.put_fields-requires-clause-ordered
put_fields-requires-clause-ordered c = imported_rise c.args.at (records_of c.args.payload.now) (sheet c.in-Ok.list.items) c.in-Ok.ensures.answers
