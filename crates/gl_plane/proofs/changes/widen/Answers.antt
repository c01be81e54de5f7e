use Rattle.std.proofs.Common.{arith}
use Rattle.std.proofs.lemmas.Grind.{elements}
use Rattle.gl_plane.proofs.changes.widen.Goals as goal

pub returns-in_ok-push : goal.returns-in_ok-push
returns-in_ok-push c = grind (arith, elements)

pub returns-then-block-len : goal.returns-then-block-len
returns-then-block-len c = grind (arith, elements)
