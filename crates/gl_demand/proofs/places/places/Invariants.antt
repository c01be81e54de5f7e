use Rattle.std.proofs.Common.{◌≡◌, ◌++◌, length, filter}
use Rattle.gl_calculus.specs.Grid.Grid.{addresses}
use Rattle.gl_calculus.specs.Values.Value.{region}
use Rattle.gl_cells.specs.Sheet.{sheet}
use Rattle.gl_value.specs.View.{sheet_tree}
use Rattle.gl_demand.specs.Blocks.{has_content_in}
use Rattle.gl_demand.proofs.Filled.{left}
use Rattle.gl_demand.proofs.places.places.Given as goal

-- the places found so far, and those that are left
abbrev pub invariant-loop-a : goal.invariant-loop-a
invariant-loop-a l =
    l.found.items ++ filter (left (sheet l.cells) (sheet_tree l.s) l.after) (addresses (region (sheet_tree l.s)))
    ≡ filter (has_content_in (sheet l.cells) (sheet_tree l.s)) (addresses (region (sheet_tree l.s)))

abbrev pub decreases-loop-a : goal.decreases-loop-a
decreases-loop-a l = length (filter (left (sheet l.cells) (sheet_tree l.s) l.after) (addresses (region (sheet_tree l.s))))
