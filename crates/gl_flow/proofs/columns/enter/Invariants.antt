use Rattle.std.proofs.Common.{◌-◌, length}
use Rattle.gl_flow.proofs.Stacking.{AreEntered}
use Rattle.gl_flow.proofs.columns.enter.Given as goal

abbrev pub invariant-loop-stack : goal.invariant-loop-stack
invariant-loop-stack l = AreEntered l.places l.areas l.column l.row l.next l.stack.items

abbrev pub decreases-loop-stack : goal.decreases-loop-stack
decreases-loop-stack l = length l.places - l.next
