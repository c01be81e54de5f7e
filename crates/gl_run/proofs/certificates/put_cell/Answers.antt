use Rattle.std.proofs.Common.{arith}
use Rattle.gl_value.specs.Forms.{trees}
use Rattle.gl_run.proofs.certificates.put_cell.Goals as goal

pub returns-in-Top : goal.returns-in-Top
returns-in-Top c = grind (arith, trees)
