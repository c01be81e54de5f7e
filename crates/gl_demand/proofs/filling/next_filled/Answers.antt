use Rattle.std.proofs.Common.{◌≡◌, ◌&&◌, false}
use Rattle.gl_calculus.specs.Grid.Grid.{Addr, covers}
use Rattle.gl_calculus.specs.Values.Value.{region}
use Rattle.gl_cells.specs.Sheet.{sheet}
use Rattle.gl_value.specs.Forms.{sheet_tree_is}
use Rattle.gl_value.specs.View.{sheet_tree}
use Rattle.gl_demand.proofs.Filled.{in_part_first, none_shared}
use Rattle.gl_demand.proofs.filling.next_filled.Goals as goal

pub returns-in-Some : goal.returns-in-Some
returns-in-Some c =
    let s = sheet_tree c.args.s.now in
    let part : (b : Addr) → covers c.in-Some.part b ≡ (covers c.args.r.now b && covers (region s) b) = rw (sheet_tree_is c.args.s.now) c.in-Some.ensures.some in
    in_part_first (sheet c.args.cells.now) s c.args.r.now c.in-Some.part c.args.after.now c.filled_in_part.result part c.filled_in_part.ensures

pub returns-in-None : goal.returns-in-None
returns-in-None c =
    let s = sheet_tree c.args.s.now in
    let apart : (b : Addr) → (covers c.args.r.now b && covers (region s) b) ≡ false = rw (sheet_tree_is c.args.s.now) c.in-None.ensures.none in
    none_shared (sheet c.args.cells.now) s c.args.r.now c.args.after.now apart
