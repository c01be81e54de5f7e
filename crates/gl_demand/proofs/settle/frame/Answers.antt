use Rattle.std.proofs.Common.{arith}
use Rattle.gl_value.specs.Forms.{trees}
use Rattle.gl_demand.proofs.settle.frame.Goals as goal

pub returns : goal.returns
returns c = grind (arith, trees)
