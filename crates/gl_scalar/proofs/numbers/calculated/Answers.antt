use Rattle.std.proofs.Common.{arith}
use Rattle.gl_value.specs.Forms.{trees}
use Rattle.gl_scalar.proofs.numbers.calculated.Goals as goal

pub returns-in_default : goal.returns-in_default
returns-in_default c = grind (arith, trees)
