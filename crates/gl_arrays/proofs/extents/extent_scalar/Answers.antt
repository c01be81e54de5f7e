use Rattle.std.proofs.Common.{arith}
use Rattle.gl_value.specs.Forms.{trees}
use Rattle.gl_arrays.proofs.extents.extent_scalar.Goals as goal

pub returns-in-One-Err-clause-sound : goal.returns-in-One-Err-clause-sound
returns-in-One-Err-clause-sound c = grind (arith, trees)

pub returns-in_default-clause-sound : goal.returns-in_default-clause-sound
returns-in_default-clause-sound c = grind (arith, trees)
