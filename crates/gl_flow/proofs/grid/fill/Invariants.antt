use Rattle.gl_cells.specs.Sheet.{sheet}
use Rattle.gl_flow.specs.Grid.{number_lists}
use Rattle.gl_flow.specs.Filling.{IsFilled}
use Rattle.gl_flow.proofs.grid.fill.Given as goal

abbrev pub invariant-loop-k : goal.invariant-loop-k
invariant-loop-k l = IsFilled (sheet l.cells) l.places l.areas l.rows l.k (number_lists l.columns.items)
