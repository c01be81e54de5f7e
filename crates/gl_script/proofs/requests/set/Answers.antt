use Rattle.gl_protocol.specs.Scripts.Commands.{SetWords}
use Rattle.gl_protocol.specs.Scripts.Commands as C
use Rattle.gl_script.proofs.Lines.{set_asks, set_refused, no_place}
use Rattle.gl_script.proofs.requests.set.Goals as goal

pub returns-in-Ok : goal.returns-in-Ok
returns-in-Ok c = λ l h. set_asks l c.args.place.now c.args.text.now c.in-Some.a c.in-Ok.content h c.in-Some.ensures.some c.in-Ok.ensures

pub returns-in-Err : goal.returns-in-Err
returns-in-Err c = λ l h. set_refused l c.args.place.now c.args.text.now c.in-Some.a c.in-Err.fault h c.in-Some.ensures.some c.in-Err.ensures

pub returns-in-None : goal.returns-in-None
returns-in-None c = λ l h. no_place l (SetWords c.args.place.now c.args.text.now) h (C.ReadsWords.set_place c.in-None.ensures.none)
