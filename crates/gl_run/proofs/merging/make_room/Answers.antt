use Rattle.gl_run.proofs.Joining.{rooms_of}
use Rattle.gl_run.proofs.Readying.{same_known}
use Rattle.gl_run.proofs.merging.make_room.Goals as goal

pub returns-clause-known : goal.returns-clause-known
returns-clause-known c = same_known c.args.script.now c.in-Some.replica c.make_room.new.self c.in-Some.is c.make_room.ensures.same

pub returns-clause-room : goal.returns-clause-room
returns-clause-room c = rooms_of c.args.script.now c.in-Some.replica c.make_room.new.self c.args.a c.make_room.result c.make_room.ensures.same c.are_ordered.ensures c.make_room.ensures.answer
