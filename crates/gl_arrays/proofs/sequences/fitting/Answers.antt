use Rattle.std.proofs.Common.{arith}
use Rattle.std.proofs.lemmas.Grind.{common_steps}
use Rattle.gl_arrays.proofs.sequences.fitting.Goals as goal

pub overflow_cast-result : goal.overflow_cast-result
overflow_cast-result c = grind (arith, common_steps)

pub overflow_cast-result-then-cols-le-MAX_CELLS : goal.overflow_cast-result-then-cols-le-MAX_CELLS
overflow_cast-result-then-cols-le-MAX_CELLS c = grind (arith, common_steps)
