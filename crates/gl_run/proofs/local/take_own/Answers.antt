use Rattle.gl_run.specs.Script.{script_of}
use Rattle.gl_run.proofs.Readying.{own_there, own_taken, own_gone}
use Rattle.gl_run.proofs.local.take_own.Goals as goal

pub take_all-requires : goal.take_all-requires
take_all-requires c = own_there c.args.script.now c.args.edits.items c.in-Some.replica c.in-Some.is c.requires

pub returns-in-Some-clause-takes : goal.returns-in-Some-clause-takes
returns-in-Some-clause-takes c = own_taken c.args.script.now c.args.edits.items c.in-Some.replica c.take_all.new.replica c.in-Some.is c.take_all.ensures

pub returns-in-None-clause-takes : goal.returns-in-None-clause-takes
returns-in-None-clause-takes c = own_gone c.args.script.now c.args.edits.items (script_of c.args.script.now) c.in-None.is
