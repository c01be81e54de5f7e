use Rattle.std.specs.Prelude.{option_copied}
use Rattle.gl_protocol.specs.Scripts.Commands.{EditWords}
use Rattle.gl_protocol.specs.Scripts.Commands as C
use Rattle.gl_script.proofs.Lines.{edit_asks, edit_refused, edit_no_stamp, no_place}
use Rattle.gl_script.proofs.requests.edit.Goals as goal

pub returns-in-Ok : goal.returns-in-Ok
returns-in-Ok c = λ l h. edit_asks l c.args.time.now c.args.site.now c.args.place.now (option_copied c.args.text) h c.in-Some.at c.in-Some-stamp_of.time c.in-Some-stamp_of.site c.in-Ok.content c.in-Some.ensures.some c.in-Some-stamp_of.ensures c.in-Ok.ensures

pub returns-in-Err : goal.returns-in-Err
returns-in-Err c = λ l h. edit_refused l c.args.time.now c.args.site.now c.args.place.now (option_copied c.args.text) h c.in-Some.at c.in-Some-stamp_of.time c.in-Some-stamp_of.site c.in-Err.fault c.in-Some.ensures.some c.in-Some-stamp_of.ensures c.in-Err.ensures

pub returns-in-None-stamp_of : goal.returns-in-None-stamp_of
returns-in-None-stamp_of c = λ l h. edit_no_stamp l c.args.time.now c.args.site.now c.args.place.now (option_copied c.args.text) h c.in-Some.at c.in-Some.ensures.some c.in-None-stamp_of.ensures

pub returns-in-None : goal.returns-in-None
returns-in-None c = λ l h. no_place l (EditWords c.args.time.now c.args.site.now c.args.place.now (option_copied c.args.text)) h (C.ReadsWords.edit_place c.in-None.ensures.none)
