use Rattle.gl_flow.proofs.Stacking.{IsPassed}
use Rattle.gl_flow.proofs.columns.column_of.Given as goal

abbrev pub invariant-loop-row : goal.invariant-loop-row
invariant-loop-row l = IsPassed l.places l.areas l.column l.row l.next l.stack.items l.numbers.items
