use Rattle.gl_script.proofs.Places.{range_in_order, range_unordered, range_nowhere}
use Rattle.gl_script.proofs.place.read_range.Goals as goal

pub returns-then-ordered : goal.returns-then-ordered
returns-then-ordered c = range_in_order c.args.place.now _ _ c.new.result c.ordered.result c.in-Some.ensures.some c.ordered.ensures c.if-ordered.true c.new.ensures

pub returns-else-ordered : goal.returns-else-ordered
returns-else-ordered c = range_unordered c.args.place.now _ _ c.ordered.result c.in-Some.ensures.some c.ordered.ensures c.if-ordered.false

pub returns-in-None : goal.returns-in-None
returns-in-None c = range_nowhere c.args.place.now c.in-None.ensures.none
