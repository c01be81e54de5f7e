use Rattle.std.proofs.Common.{arith}
use Rattle.gl_value.specs.Forms.{trees}
use Rattle.gl_demand.proofs.demand.value_of.Goals as goal

pub returns-in-Ok-share-clause-sound : goal.returns-in-Ok-share-clause-sound
returns-in-Ok-share-clause-sound g c = grind (arith, trees)

pub returns-in-Ok-share-clause-walk : goal.returns-in-Ok-share-clause-walk
returns-in-Ok-share-clause-walk g c = grind (arith, trees)
