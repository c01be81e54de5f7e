use Rattle.std.proofs.Common.{IfSome, Option, Some, List, ℕ, [], sym, subst}
use Rattle.std.specs.Option.{option_to_list}
use Rattle.gl_script.specs.Framer.{told, stream_at}
use Rattle.gl_protocol.specs.Framing.Framing.{Item}
use Rattle.gl_protocol.specs.Framing.Stream.{closing}
use Rattle.gl_run.specs.State.{state_of}
use Rattle.gl_run.specs.Serving.{last_item}
use Rattle.gl_run.specs.Emitted.{Emitted}
use Rattle.gl_run.specs.Framed.{IsFramed}
use Rattle.gl_run.proofs.Headers.{closing_framed}
use Rattle.gl_run.proofs.Collecting.{untold, wrote_none, serves_all}
use Rattle.gl_protocol.specs.Run.Plans.{must_fail, behind_write}
use Rattle.gl_run.proofs.Plans.{unfailed_none, goes_ok}
use Rattle.gl_run.proofs.session.Session.finish.Goals as goal

pub emit-requires-clause-framed : goal.emit-requires-clause-framed
emit-requires-clause-framed g c =
    let P : Option Item → Type 0 = λ o. IfSome o IsFramed in
    subst P c.in_ok-ended.ensures (closing_framed (stream_at c.args.self.now.framer) c.requires.header)

pub returns : goal.returns
returns g c =
    let self = c.args.self.now in
    let new = c.emit.new.self in
    let sink = c.args.sink.now in
    let P : List ℕ → List ℕ → Option Item → Type 0 = λ before out o. Emitted (state_of self c.args.steps.now) (state_of new c.emit.new.steps) self.refused new.refused (Some before) (Some out) untold untold (option_to_list o) in
    let ended = told c.in_ok-ended.ended c.finish.new.self in
    let e = subst (λ ys. P ys c.emit.new.out.items ended) c.new-out.ensures.items (c.in_ok-emit.ensures.collects []) in
    let f = subst (λ o. P [] c.emit.new.out.items o) (sym c.in_ok-ended.ensures) e in
    record {
      serves = serves_all g.K.Sink.taken g.K.Sink.takes g.K.Sink.is_exact g.K.Sink.faults sink sink c.send.new.sink self new c.args.steps.now c.emit.new.steps (last_item self.framer) [] c.deref.result.now
          (wrote_none (g.K.Sink.taken sink) (g.K.Sink.takes sink) (g.K.Sink.is_exact sink) (g.K.Sink.faults sink)) _ c.send.result
          (subst (λ out. P [] out (closing (stream_at self.framer))) (sym c.deref.ensures.value) f) c.send.ensures.sent;
      planned = goes_ok (g.K.Sink.plan sink) (g.K.Sink.plan sink) (g.K.Sink.plan c.send.new.sink) _ c.send.result (unfailed_none must_fail behind_write (g.K.Sink.plan sink)) c.send.ensures.planned;
    }
