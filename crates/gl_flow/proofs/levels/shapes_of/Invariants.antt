use Rattle.std.proofs.Common.{◌≡◌, ◌+◌}
use Rattle.gl_cells.specs.Sheet.{sheet}
use Rattle.gl_flow.specs.Shapes.{shapes_at}
use Rattle.gl_flow.proofs.levels.shapes_of.Given as goal

abbrev pub invariant-loop-level : goal.invariant-loop-level
invariant-loop-level l = l.shapes.items ≡ shapes_at (sheet l.cells) (l._level + 1)
