use Rattle.std.proofs.Common.{drop}
use Rattle.gl_calculus.specs.Formulas.Formula.{Cells, IsSheet}
use Rattle.gl_cells.specs.Sheet.{sheet}
use Rattle.gl_calc.specs.Places.{ArePlaces}
use Rattle.gl_calc.proofs.Places.{Reached}
use Rattle.gl_calc.proofs.placing.places_with_all.Given as goal

abbrev pub invariant-loop-a : goal.invariant-loop-a
invariant-loop-a l = (S : Cells) → IsSheet S → ArePlaces S l.fn.places → Reached S (sheet l.list) (sheet (drop l.a-index l.list)) l.places
