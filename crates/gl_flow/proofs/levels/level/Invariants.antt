use Rattle.std.proofs.Common.{◌≡◌, take}
use Rattle.gl_cells.specs.Sheet.{sheet}
use Rattle.gl_flow.specs.Shapes.{spilled_at, level_shapes}
use Rattle.gl_flow.proofs.levels.level.Given as goal

abbrev pub invariant-loop-a : goal.invariant-loop-a
invariant-loop-a l = l.shapes.items ≡ level_shapes (sheet l.cells) (spilled_at l.spilled.any l.spilled.places.now l.spilled.shapes.now) (take l.a-index l.places)
