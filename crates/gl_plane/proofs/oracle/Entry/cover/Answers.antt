use Rattle.std.proofs.Common.{arith}
use Rattle.std.proofs.lemmas.Grind.{common_steps}
use Rattle.gl_plane.proofs.oracle.Entry.cover.Goals as goal

pub returns-then-covers : goal.returns-then-covers
returns-then-covers c = grind (arith, common_steps)
