use Rattle.gl_run.proofs.Joining.{judges_by}
use Rattle.gl_run.proofs.merging.judge.Goals as goal

pub returns-in-Some : goal.returns-in-Some
returns-in-Some c = judges_by c.args.script.now c.in-Some.replica c.args.e.now c.judge.result c.in-Some.is c.judge.ensures
