use Rattle.std.proofs.Common.{arith}
use Rattle.std.proofs.lemmas.Grind.{common_steps}
use Rattle.gl_support.proofs.pass.follow.Goals as goal

pub returns-then-is_marked-clause-marks : goal.returns-then-is_marked-clause-marks
returns-then-is_marked-clause-marks c = grind (arith, common_steps)
