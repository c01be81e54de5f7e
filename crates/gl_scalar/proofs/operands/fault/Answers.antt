use Rattle.std.proofs.Common.{arith}
use Rattle.gl_value.specs.Forms.{trees}
use Rattle.gl_scalar.proofs.operands.fault.Goals as goal

pub returns-in-Err-default : goal.returns-in-Err-default
returns-in-Err-default c = grind (arith, trees)

pub returns-in-Sheet-default : goal.returns-in-Sheet-default
returns-in-Sheet-default c = grind (arith, trees)
