use Rattle.std.proofs.Common.{arith}
use Rattle.std.proofs.lemmas.Grind.{common_steps}
use Rattle.gl_value.specs.Forms.{trees}
use Rattle.gl_scalar.proofs.numbers.quotient.Goals as goal

pub returns-then-n-eq0 : goal.returns-then-n-eq0
returns-then-n-eq0 c = grind (arith, trees)

pub returns : goal.returns
returns c = grind (arith, common_steps)
