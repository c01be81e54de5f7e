use Rattle.std.proofs.Common.{◌≡◌, ◌+◌, count_by, take}
use Rattle.gl_cells.specs.Sheet.{sheet}
use Rattle.gl_value.specs.View.{sheet_tree}
use Rattle.gl_demand.proofs.Granting.{takes}
use Rattle.gl_demand.proofs.settle.copy_budget.Given as goal

-- the formulas and array overrides so far, and eight
abbrev pub invariant-loop-a : goal.invariant-loop-a
invariant-loop-a l = l.count ≡ count_by (takes (sheet l.cells) (sheet_tree l.s)) (take l.a-index l.places) + 8
