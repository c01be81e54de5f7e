use Rattle.std.proofs.Common.{drop}
use Rattle.gl_cells.specs.Sheet.{sheet}
use Rattle.gl_flow.proofs.Unknown.{IsSeeking}
use Rattle.gl_flow.proofs.unknowns.first_unknown.Given as goal

abbrev pub invariant-loop-a : goal.invariant-loop-a
invariant-loop-a l = IsSeeking (sheet l.cells) (drop l.a-index l.places) l.places
