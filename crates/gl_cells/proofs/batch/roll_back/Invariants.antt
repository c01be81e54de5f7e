use Rattle.std.proofs.Common.{◌≡◌, vec_len}
use Rattle.gl_cells.specs.Sheet.{undo_all, CanUndo, IsTable}
use Rattle.gl_cells.proofs.batch.roll_back.Given as goal

abbrev pub invariant-loop-a : goal.invariant-loop-a
invariant-loop-a l = record {
  table : IsTable l.map l.forms;
  can : CanUndo l.undo.items l.map;
  back : undo_all l.undo.items l.map ≡ undo_all l.fn.undo.items l.fn.map;
}

abbrev pub decreases-loop-a : goal.decreases-loop-a
decreases-loop-a l = vec_len l.undo
