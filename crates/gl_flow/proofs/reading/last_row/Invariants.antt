use Rattle.std.proofs.Common.{◌≡◌, ◌≤◌, max, drop}
use Rattle.gl_calculus.specs.Grid.Limits.{grid_rows}
use Rattle.gl_flow.specs.Pieces.{piece_lists, rows_read, AreRead}
use Rattle.gl_flow.proofs.reading.last_row.Given as goal

abbrev pub invariant-loop-list : goal.invariant-loop-list
invariant-loop-list l = record {
  most : max l.row (rows_read (piece_lists (drop l.list-index l.all))) ≡ rows_read (piece_lists l.all);
  sound : AreRead (piece_lists (drop l.list-index l.all)) → AreRead (piece_lists l.all);
  small : l.row ≤ grid_rows;
}
