use Rattle.std.proofs.Common.{IfSome, Option, subst}
use Rattle.gl_script.specs.Framer.{stream_at}
use Rattle.gl_protocol.specs.Framing.Framing.{Item}
use Rattle.gl_protocol.specs.Framing.Stream.{Stream}
use Rattle.gl_run.specs.Framed.{IsFramed}
use Rattle.gl_run.proofs.Headers.{step_framed}
use Rattle.gl_run.proofs.session.Session.take_byte.Goals as goal

pub emit-requires-clause-framed : goal.emit-requires-clause-framed
emit-requires-clause-framed g c =
    let P : Stream × Option Item → Type 0 = λ p. IfSome p.1 IsFramed in
    subst P c.in_ok-ended.ensures (step_framed (stream_at c.args.self.now.framer) c.args.b c.requires.header)
