use Rattle.std.proofs.Common.{arith}
use Rattle.std.proofs.lemmas.Grind.{common_steps}
use Rattle.gl_plane.proofs.reach.Reaches.fall_short.Goals as goal

pub returns-else-index-row : goal.returns-else-index-row
returns-else-index-row c = grind (arith, common_steps)
