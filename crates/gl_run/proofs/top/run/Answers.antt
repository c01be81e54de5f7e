use Rattle.std.proofs.Common.{◌≡◌, ◌∙◌, ℕ, List, Option, Some, IfSome, ap, sym, subst}
use Rattle.gl_protocol.specs.Scripts.Output.{items_of, generated}
use Rattle.gl_protocol.specs.Run.Words as W
use Rattle.gl_protocol.specs.Run.Spends.{SpendsScript}
use Rattle.std.specs.Option.{option_and_then, option_map_or}
use Rattle.gl_protocol.specs.Run.Call.{input_of}
use Rattle.gl_run.specs.Status.{IfDone}
use Rattle.gl_run.proofs.top.run.Goals as goal

pub returns-in-Some-size-clause-bound : goal.returns-in-Some-size-clause-bound
returns-in-Some-size-clause-bound g c =
    let left = g.S.Source.left c.args.source.now in
    let P : Option (List ℕ) → Type 0 = λ o. IfDone c.serve_generated.result (λ refused. IfSome o (λ t. SpendsScript (items_of t) c.args.steps.now c.serve_generated.new.steps)) in
    let input_by : Option W.Call → Option (List ℕ) = λ o. option_and_then (λ (k : W.Call). option_map_or (λ n. Some (generated n)) k.size left) o in
    let size : c.in-Some.field-0.size ≡ Some c.in-Some-size.n = cc in
    let by_call : input_of c.args.words.now left ≡ input_by (Some (record { kind = c.in-Some.field-0.kind; size = c.in-Some.field-0.size })) =
    ap (λ (o : Option W.Call). input_by o) (sym c.in-Some.ensures.call) in
    let is_generated : input_by (Some (record { kind = c.in-Some.field-0.kind; size = c.in-Some.field-0.size })) ≡ Some (generated c.in-Some-size.n) =
    ap (λ (s : Option ℕ). input_by (Some (record { kind = c.in-Some.field-0.kind; size = s }))) size in
    subst P (sym (by_call ∙ is_generated)) c.serve_generated.ensures.bound
