use Rattle.std.proofs.Common.{List, ℕ, subst, arith}
use Rattle.gl_run.specs.Sending.{Passes}
use Rattle.gl_run.proofs.Collecting.{passes_none, passes_all}
use Rattle.gl_protocol.specs.Run.Plans.{must_fail, behind_write}
use Rattle.gl_run.proofs.Plans.{unfailed_none, sent_plan}
use Rattle.gl_run.proofs.sending.pass_on.Goals as goal

pub returns-then-len-lt-FULL : goal.returns-then-len-lt-FULL
returns-then-len-lt-FULL g c = record {
  passed = passes_none _ _ _ _ _ _ (omega (arith, c.if-len-lt-FULL.true, c.len.ensures, c.args.out.now.ok.0));
  planned = unfailed_none must_fail behind_write (g.K.Sink.plan c.args.sink.now);
}

pub returns : goal.returns
returns g c =
    let S = g.K.Sink.taken in
    let old = c.args.sink.now in
    let new = c.send-done.new.sink in
    let left = c.clear.new.self.items in
    let P : List ℕ → Type 0 = λ out. Passes (g.K.Sink.taken old) (g.K.Sink.taken new) (g.K.Sink.takes old) (g.K.Sink.takes new) (g.K.Sink.is_exact old) (g.K.Sink.is_exact new) (g.K.Sink.faults old) (g.K.Sink.faults new) out left c.send-done.result in
    record { planned = sent_plan _ _ c.send-done.result c.send-done.ensures.planned; passed = subst P c.deref.ensures.value (passes_all _ _ _ _ _ _ _ _ c.deref.result.now left _ c.send-done.result c.clear.ensures.items c.send-done.ensures.sent) }
