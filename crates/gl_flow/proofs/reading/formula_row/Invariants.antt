use Rattle.std.proofs.Common.{◌≡◌, ◌≤◌, max, drop}
use Rattle.gl_calculus.specs.Grid.Limits.{grid_rows}
use Rattle.gl_flow.specs.Pieces.{piece_trees, last_read, AreReadPieces}
use Rattle.gl_flow.proofs.reading.formula_row.Given as goal

abbrev pub invariant-loop-p : goal.invariant-loop-p
invariant-loop-p l = record {
  most : max l.row (last_read (piece_trees (drop l.p-index l.list))) ≡ last_read (piece_trees l.list);
  sound : AreReadPieces (piece_trees (drop l.p-index l.list)) → AreReadPieces (piece_trees l.list);
  small : l.row ≤ grid_rows;
}
