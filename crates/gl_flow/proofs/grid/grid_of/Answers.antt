use Rattle.gl_cells.specs.Sheet.{sheet}
use Rattle.gl_flow.specs.Grid.{number_lists}
use Rattle.gl_flow.proofs.Griding.{fill_done}
use Rattle.gl_flow.proofs.grid.grid_of.Goals as goal

pub returns-clause-sources : goal.returns-clause-sources
returns-clause-sources c =
    fill_done (sheet c.args.cells.now) c.args.places.now c.args.areas.now c.args.rows (number_lists c.fill.new.columns.items) c.contents-contents.ensures.ordered c.requires.places c.fill.ensures
