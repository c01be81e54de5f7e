use Rattle.gl_cells.specs.Sheet.{sheet}
use Rattle.gl_flow.specs.Grid.{number_lists}
use Rattle.gl_flow.proofs.Griding.{IsClearing, in_play_count}
use Rattle.gl_flow.proofs.grid.clear.Given as goal

abbrev pub invariant-loop-a : goal.invariant-loop-a
invariant-loop-a l = IsClearing (sheet l.cells) l.areas l.rows l.after (number_lists l.columns.items)

abbrev pub decreases-loop-a : goal.decreases-loop-a
decreases-loop-a l = in_play_count (sheet l.cells) l.after
