use Rattle.gl_cells.specs.Sheet.{sheet}
use Rattle.gl_demand.proofs.Filled.{content_first}
use Rattle.gl_demand.proofs.filling.next_content.Goals as goal

pub returns : goal.returns
returns c = content_first (sheet c.args.cells.now) c.args.r.now c.args.after.now c.next_in.result c.contents-contents.ensures.ordered c.next_in.ensures
