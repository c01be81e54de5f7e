-- The plain step of changes of a sheet.
use Rattle.std.specs.Prelude.{List, Option}
use Rattle.gl_calculus.specs.Grid.Grid.{Addr}
use Rattle.gl_calculus.specs.Edits.Steps as E
use Rattle.gl_cells.specs.declared.content.Content.{Content}
use Rattle.gl_cells.specs.Sheet.{Table, sheet}
use Rattle.gl_undo.specs.View.{changes_tree}

abbrev pub made_of : Table → List (Addr × Option Content) → E.Step
made_of cells cs = E.step_of (sheet cells) (changes_tree cs)
