use Rattle.std.proofs.Common.{◌≡◌, map, take}
use Rattle.gl_cells.specs.Sheet.{sheet}
use Rattle.gl_calc.proofs.marking.places_of.Given as goal

abbrev pub invariant-loop-entry : goal.invariant-loop-entry
invariant-loop-entry l = l.places.items ≡ map (λ e. e.0) (sheet (take l.entry-index l.list))
