use Rattle.std.proofs.Common.{[]}
use Rattle.gl_cells.specs.Sheet.{sheet}
use Rattle.gl_value.specs.View.{sheet_tree}
use Rattle.gl_demand.specs.Filling.{is_content}
use Rattle.gl_demand.proofs.Filled.{filled_first}
use Rattle.gl_demand.proofs.filling.filled_in_part.Goals as goal

pub returns : goal.returns
returns c =
    let S = sheet c.args.cells.now in
    let r = c.args.r.now in
    let after = c.args.after.now in
    filled_first S (sheet_tree c.args.s.now) r after c.soonest.result c.requires.inside (c.soonest.ensures [] (is_content S r after) c.next_content-content.ensures)
