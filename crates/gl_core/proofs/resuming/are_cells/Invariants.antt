use Rattle.std.proofs.Common.{◌≡◌, map, take}
use Rattle.gl_calculus.specs.Values.Value.{Top}
use Rattle.gl_calculus.specs.Evaluation.Key as K
use Rattle.gl_core.specs.Numbers.{keys_at}
use Rattle.gl_core.proofs.resuming.are_cells.Given as goal

abbrev pub invariant-loop-i : goal.invariant-loop-i
invariant-loop-i l = record {
  cells : keys_at l.book (take l.i l.known) ≡ map (K.Cell Top) (take l.i l.places);
}
