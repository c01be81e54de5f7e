use Rattle.std.proofs.Common.{arith}
use Rattle.gl_value.specs.Forms.{trees}
use Rattle.gl_demand.proofs.viewing.viewed.Goals as goal

pub returns-in-Array-clause-sound : goal.returns-in-Array-clause-sound
returns-in-Array-clause-sound g c = grind (arith, trees)

pub returns-in-Array-clause-walk : goal.returns-in-Array-clause-walk
returns-in-Array-clause-walk g c = grind (arith, trees)

pub returns-in-One-clause-walk : goal.returns-in-One-clause-walk
returns-in-One-clause-walk g c = grind (arith, trees)

pub viewed_one-requires : goal.viewed_one-requires
viewed_one-requires g c = grind (arith, trees)
