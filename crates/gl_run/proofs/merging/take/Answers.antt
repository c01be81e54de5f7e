use Rattle.gl_run.proofs.Joining.{takes_of, no_takes, can_take_at}
use Rattle.gl_run.proofs.merging.take.Goals as goal

pub take-requires-clause-judged : goal.take-requires-clause-judged
take-requires-clause-judged c = (can_take_at c.args.script.now c.args.e c.in-Some.replica c.in-Some.is c.requires).0

pub take-requires-clause-room : goal.take-requires-clause-room
take-requires-clause-room c = (can_take_at c.args.script.now c.args.e c.in-Some.replica c.in-Some.is c.requires).1

pub returns-in-Some-clause-takes : goal.returns-in-Some-clause-takes
returns-in-Some-clause-takes c = takes_of c.args.script.now c.in-Some.replica c.take.new.self c.args.e c.in-Some.is c.take.ensures.taken

pub returns-in-None-clause-takes : goal.returns-in-None-clause-takes
returns-in-None-clause-takes c = no_takes c.args.script.now c.args.e c.in-None.is
