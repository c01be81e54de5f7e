use Rattle.std.proofs.Common.{rules, ◌≡◌, ◌∙◌, ℕ, List, drop, Option, Some, String, Global, ap, sym}
use Rattle.gl_protocol.specs.Scripts.Output.{items_of}
use Rattle.gl_protocol.specs.Run.Call.{words_call, input_of}
use Rattle.gl_run.proofs.Ends.{wrote_none}
use Rattle.gridlet_c.proofs.Leaving.{leaves}
use Rattle.gridlet_c.proofs.answering.answer.Goals as goal

pub returns-in_default : goal.returns-in_default
returns-in_default g c = wrote_none (g.K.Sink.taken c.args.sink.now) (items_of c.args.script.now)

pub returns-in_default-to_vec : goal.returns-in_default-to_vec
returns-in_default-to_vec g c = wrote_none (g.K.Sink.taken c.args.sink.now) (items_of c.args.script.now)

pub returns : goal.returns
returns g c =
    let t = g.K.Sink.taken in
    let h = c.run.ensures in
    let copied : c.in-Ok-to_vec.bytes.items ≡ c.args.script.now = search rules in
    let left : Option (List ℕ) = Some (drop c.new-source.result.at c.new-source.result.bytes.items) in
    let input : input_of c.deref.result.now left ≡ Some c.args.script.now =
    ap (λ (ws : List (String Global)). input_of ws left) c.deref.ensures.value ∙ (c.in-Ok.ensures.input left ∙ ap (λ (xs : List ℕ). Some xs) (c.new-source.ensures.left ∙ copied)) in
    leaves (input_of c.deref.result.now left) c.args.script.now (t c.args.sink.now) (t c.run.new.sink) (g.K.Sink.takes c.args.sink.now) input c.run.result
    h.done (λ e. c.in-Ok.ensures.form (ap words_call (sym c.deref.ensures.value) ∙ (h.usage).0 e))
    (h.read_fault_told (ap (λ p. p.failing) c.new-source.ensures.plan ∙ c.new.ensures.items)) h.write_fault_wrote h.write_fault_told h.no_memory_wrote h.input_limit
