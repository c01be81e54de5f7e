use Rattle.std.proofs.Common.{◌≡◌, drop, replicate}
use Rattle.gl_protocol.specs.Replies.Tables.{widths}
use Rattle.gl_views.specs.Cells.{rows_of}
use Rattle.gl_views.proofs.tables.column_widths.Given as goal

abbrev pub invariant-loop-row : goal.invariant-loop-row
invariant-loop-row l = widths l.widths.items (rows_of (drop l.row-index l.rows)) ≡ widths (replicate l.cols 0) (rows_of l.rows)
