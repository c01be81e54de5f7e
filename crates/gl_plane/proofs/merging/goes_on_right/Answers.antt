use Rattle.std.proofs.Common.{arith}
use Rattle.std.proofs.lemmas.Grind.{common_steps}
use Rattle.gl_plane.proofs.merging.goes_on_right.Goals as goal

pub returns-then-top-last-clause-both : goal.returns-then-top-last-clause-both
returns-then-top-last-clause-both c = grind (arith, common_steps)
