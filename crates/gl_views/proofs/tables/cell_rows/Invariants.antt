use Rattle.std.proofs.Common.{map}
use Rattle.gl_value.specs.Made.{shown_tree}
use Rattle.gl_views.specs.Cells.{rows_of}
use Rattle.gl_views.proofs.InRows.{IsBegun}
use Rattle.gl_views.proofs.tables.cell_rows.Given as goal

abbrev pub invariant-loop-i : goal.invariant-loop-i
invariant-loop-i l = IsBegun l.rows l.cols l._i (rows_of l.texts.items) (map shown_tree l.left) (map shown_tree l.items)
