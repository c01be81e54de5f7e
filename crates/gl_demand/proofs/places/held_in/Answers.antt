use Rattle.std.proofs.Common.{arith}
use Rattle.gl_value.specs.Forms.{trees}
use Rattle.gl_demand.proofs.places.held_in.Goals as goal

pub returns-else-covers : goal.returns-else-covers
returns-else-covers c = grind (arith, trees)

pub returns-then-covers : goal.returns-then-covers
returns-then-covers c = grind (arith, trees)
