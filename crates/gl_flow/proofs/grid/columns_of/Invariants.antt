use Rattle.std.proofs.Common.{◌-◌, ◌≤◌}
use Rattle.gl_flow.specs.Grid.{number_lists, AreColumns}
use Rattle.gl_flow.proofs.grid.columns_of.Given as goal

abbrev pub invariant-loop-column : goal.invariant-loop-column
invariant-loop-column l = (1 ≤ l.column) × AreColumns l.areas l.rows (l.column - 1) (number_lists l.columns.items)
