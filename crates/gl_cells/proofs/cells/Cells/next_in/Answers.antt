use Rattle.std.proofs.Common.{◌∙◌, ap, find, map}
use Rattle.gl_cells.specs.Search.{is_in_play}
use Rattle.gl_cells.specs.Sheet.{Table, sheet}
use Rattle.gl_cells.proofs.Clearing.{next_is}
use Rattle.gl_cells.proofs.cells.Cells.next_in.Goals as goal

pub returns : goal.returns
returns c =
    next_is c.self.inside.map c.args.r.now c.args.after c.next_in.result c.self.invariant.table.ordered c.next_in.ensures.found c.next_in.ensures.least c.next_in.ensures.none
    ∙ ap (λ (es : Table). find (is_in_play c.args.r.now c.args.after) (map (λ x. x.0) (sheet es))) c.self.view_is
