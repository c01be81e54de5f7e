use Rattle.std.proofs.Common.{map}
use Rattle.gl_value.specs.Made.{shown_tree}
use Rattle.gl_run.proofs.Viewing.{RowBegun}
use Rattle.gl_run.proofs.tables.push_row.Given as goal

abbrev pub invariant-loop-col : goal.invariant-loop-col
invariant-loop-col l = RowBegun l.calc l.range l.row l.col (map shown_tree l.fn.items.items) (map shown_tree l.items.items)
