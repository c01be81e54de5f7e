use Rattle.std.proofs.Common.{◌≡◌, map, take}
use Rattle.gl_value.specs.Made.{shown_tree}
use Rattle.gl_views.specs.Cells.{cell_of, texts_of}
use Rattle.gl_views.proofs.tables.row_cells.Given as goal

abbrev pub invariant-loop-x : goal.invariant-loop-x
invariant-loop-x l = texts_of l.texts.items ≡ map cell_of (map shown_tree (take l.x-index l.row))
