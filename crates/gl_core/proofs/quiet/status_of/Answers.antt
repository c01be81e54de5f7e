use Rattle.gl_demand.specs.View.{key_tree}
use Rattle.gl_core.proofs.Cores.{indexed}
use Rattle.gl_core.proofs.Resolved.{status_found, status_row, status_none}
use Rattle.gl_core.proofs.quiet.status_of.Goals as goal

pub look_up-requires : goal.look_up-requires
look_up-requires c = indexed c.args.entries.now c.requires.table

pub returns-in-Some-clause-status : goal.returns-in-Some-clause-status
returns-in-Some-clause-status c = status_found c.args.ledger.now c.args.entries.now c.requires c.in-Some.n (key_tree c.args.k.now) c.look_up.result c.in-Some.ensures c.look_up.ensures

pub returns-in-Some-clause-row : goal.returns-in-Some-clause-row
returns-in-Some-clause-row c = status_row c.args.ledger.now c.args.entries.now c.requires c.in-Some.n c.look_up.result c.look_up.ensures

pub returns-in-None-clause-status : goal.returns-in-None-clause-status
returns-in-None-clause-status c = status_none c.args.ledger.now c.args.entries.now c.requires (key_tree c.args.k.now) c.in-None.ensures
