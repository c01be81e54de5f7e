use Rattle.std.proofs.Common.{arith}
use Rattle.gl_value.specs.Forms.{trees}
use Rattle.gl_arrays.proofs.elements.sought.Goals as goal

pub returns-in-Array : goal.returns-in-Array
returns-in-Array c = grind (arith, trees)
