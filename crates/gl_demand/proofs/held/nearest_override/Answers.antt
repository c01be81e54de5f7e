use Rattle.std.proofs.Common.{arith}
use Rattle.gl_demand.proofs.Frames.{parent_sound}
use Rattle.gl_value.specs.Forms.{trees}
use Rattle.gl_demand.proofs.held.nearest_override.Goals as goal

pub get_override-requires : goal.get_override-requires
get_override-requires c = grind (arith, trees, parent_sound)

pub loop-at-preserved : goal.loop-at-preserved
loop-at-preserved c = grind (arith, trees, parent_sound)

pub returns-in-Some : goal.returns-in-Some
returns-in-Some c = grind (arith, trees, parent_sound)

pub returns-in-Top : goal.returns-in-Top
returns-in-Top c = grind (arith, trees, parent_sound)
