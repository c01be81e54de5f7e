use Rattle.gl_script.proofs.Contents.{text_read, text_not, text_none}
use Rattle.gl_script.proofs.content.read_text.Goals as goal

pub returns-in-None : goal.returns-in-None
returns-in-None c = λ n. text_none c.args.text c.in-None.is

pub returns-in-Ok : goal.returns-in-Ok
returns-in-Ok c = λ n. text_read c.args.text c.in-Some.text c.in-Ok.content c.in-Some.is n c.in-Ok.ensures

pub returns-in-Err : goal.returns-in-Err
returns-in-Err c = λ n. text_not c.args.text c.in-Some.text c.in-Err.fault c.in-Some.is n c.in-Err.ensures
