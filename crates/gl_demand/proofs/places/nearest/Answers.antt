use Rattle.std.proofs.Common.{arith}
use Rattle.gl_demand.proofs.Frames.{parent_sound}
use Rattle.gl_value.specs.Forms.{trees}
use Rattle.gl_demand.proofs.places.nearest.Goals as goal

pub content_in-requires : goal.content_in-requires
content_in-requires c = grind (arith, trees, parent_sound)

pub returns-in-None : goal.returns-in-None
returns-in-None c = grind (arith, trees, parent_sound)
