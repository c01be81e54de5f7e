use Rattle.std.proofs.Common.{◌≡◌, map, take}
use Rattle.gl_cells.specs.Sheet.{sheet}
use Rattle.gl_calculus.specs.Forecast.{box}
use Rattle.gl_flow.proofs.areas.areas_of.Given as goal

abbrev pub invariant-loop-k : goal.invariant-loop-k
invariant-loop-k l = l.areas.items ≡ map (box (sheet l.cells)) (take l.k l.places)
