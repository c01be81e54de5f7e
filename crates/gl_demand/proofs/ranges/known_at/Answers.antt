use Rattle.gl_demand.proofs.References.{if_read}
use Rattle.gl_demand.proofs.ranges.known_at.Goals as goal

pub returns-in-Some-clause-formula : goal.returns-in-Some-clause-formula
returns-in-Some-clause-formula g c = if_read c.known_cell.result (_, c.in-Some.ensures)
