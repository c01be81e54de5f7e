use Rattle.gl_cells.proofs.Digits.{Read}
use Rattle.gl_cells.proofs.plain.read_digits.Given as goal

abbrev pub invariant-loop-b : goal.invariant-loop-b
invariant-loop-b l = Read l.bytes l.n l.b-index
