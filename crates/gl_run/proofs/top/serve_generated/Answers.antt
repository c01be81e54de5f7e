use Rattle.std.proofs.Common.{◌≡◌, ◌∙◌, ℕ, List, false, IsTrue, subst}
use Rattle.gl_protocol.specs.Scripts.Output.{is_within_limit, items_of, generated}
use Rattle.gl_protocol.specs.Run.Out.{WroteAll, WroteAllTelling, WroteSome, WroteCut, Exceeds}
use Rattle.gl_protocol.specs.Run.Spends.{SpendsScript}
use Rattle.gl_run.specs.Status.{IfDone}
use Rattle.gl_run.specs.declared.top.Status.TheVariants as status
use Rattle.gl_run.proofs.Ends.{wrote_none}
use Rattle.gl_run.proofs.top.serve_generated.Goals as goal

pub returns-in-Ok-clause-done : goal.returns-in-Ok-clause-done
returns-in-Ok-clause-done g c =
    let t = g.K.Sink.taken in
    let P : List ℕ → Type 0 = λ x. IfDone c.serve.result (λ refused. IsTrue (is_within_limit x) × WroteAllTelling (t c.args.sink.now) (t c.serve.new.sink) (items_of x) refused) in
    subst P (c.new-source.ensures.left ∙ c.in-Ok.ensures) c.serve.ensures.done

pub returns-in-Ok-clause-bound : goal.returns-in-Ok-clause-bound
returns-in-Ok-clause-bound g c =
    let P : List ℕ → Type 0 = λ x. IfDone c.serve.result (λ refused. SpendsScript (items_of x) c.args.steps.now c.serve.new.steps) in
    subst P (c.new-source.ensures.left ∙ c.in-Ok.ensures) c.serve.ensures.bound

pub returns-in-Ok-clause-write_fault_wrote : goal.returns-in-Ok-clause-write_fault_wrote
returns-in-Ok-clause-write_fault_wrote g c =
    let t = g.K.Sink.taken in
    let P : List ℕ → Type 0 = λ x. c.serve.result ≡ status.WriteFault → WroteCut (t c.args.sink.now) (t c.serve.new.sink) (items_of x) in
    subst P (c.new-source.ensures.left ∙ c.in-Ok.ensures) c.serve.ensures.write_fault_wrote

pub returns-in-Ok-clause-write_fault_told : goal.returns-in-Ok-clause-write_fault_told
returns-in-Ok-clause-write_fault_told g c =
    let P : List ℕ → Type 0 = λ x. c.serve.result ≡ status.WriteFault → (room : ℕ) → g.K.Sink.takes c.args.sink.now room → Exceeds room (items_of x) in
    subst P (c.new-source.ensures.left ∙ c.in-Ok.ensures) c.serve.ensures.write_fault_told

pub returns-in-Ok-clause-no_memory_wrote : goal.returns-in-Ok-clause-no_memory_wrote
returns-in-Ok-clause-no_memory_wrote g c =
    let t = g.K.Sink.taken in
    let P : List ℕ → Type 0 = λ x. c.serve.result ≡ status.NoMemory → WroteSome (t c.args.sink.now) (t c.serve.new.sink) (items_of x) in
    subst P (c.new-source.ensures.left ∙ c.in-Ok.ensures) c.serve.ensures.no_memory_wrote

pub returns-in-Ok-clause-input_limit : goal.returns-in-Ok-clause-input_limit
returns-in-Ok-clause-input_limit g c =
    let t = g.K.Sink.taken in
    let P : List ℕ → Type 0 = λ x. c.serve.result ≡ status.InputLimit → (is_within_limit x ≡ false) × WroteAll (t c.args.sink.now) (t c.serve.new.sink) (items_of x) in
    subst P (c.new-source.ensures.left ∙ c.in-Ok.ensures) c.serve.ensures.input_limit

pub returns-in-Err-clause-no_memory_wrote : goal.returns-in-Err-clause-no_memory_wrote
returns-in-Err-clause-no_memory_wrote g c = λ _. wrote_none (g.K.Sink.taken c.args.sink.now) (items_of (generated c.args.n))
