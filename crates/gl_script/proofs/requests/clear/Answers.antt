use Rattle.gl_protocol.specs.Scripts.Commands.{ClearWords, Is}
use Rattle.gl_protocol.specs.Scripts.Commands as C
use Rattle.gl_script.proofs.Lines.{line_reads, clear_refused}
use Rattle.gl_script.proofs.requests.clear.Goals as goal

pub returns-in-Ok : goal.returns-in-Ok
returns-in-Ok c = λ l h. line_reads l (ClearWords c.args.place.now) (Is (C.Request.Clear c.in-Ok.range)) h (C.ReadsWords.clear {r = Is c.in-Ok.range} c.in-Ok.ensures)

pub returns-in-Err : goal.returns-in-Err
returns-in-Err c = λ l h. clear_refused l c.args.place.now c.in-Err.fault h c.in-Err.ensures
