use Rattle.std.proofs.Common.{◌≡◌, ◌++◌, drop}
use Rattle.std.specs.Prelude.{flat_map}
use Rattle.std.specs.String.{string_bytes}
use Rattle.gl_views.specs.Cells.{rows_of, line_of}
use Rattle.gl_views.proofs.tables.table.Given as goal

abbrev pub invariant-loop-row : goal.invariant-loop-row
invariant-loop-row l = string_bytes l.out ++ flat_map (line_of l.widths.items) (rows_of (drop l.row-index l.row-items)) ≡ flat_map (line_of l.widths.items) (rows_of l.row-items)
