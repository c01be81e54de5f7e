use Rattle.std.proofs.Common.{arith}
use Rattle.gl_value.specs.Forms.{trees}
use Rattle.gl_demand.proofs.making.made_value.Goals as goal

pub returns-in-Heavy-clause-sound : goal.returns-in-Heavy-clause-sound
returns-in-Heavy-clause-sound c = grind (arith, trees)

pub returns-in-Heavy-clause-walk : goal.returns-in-Heavy-clause-walk
returns-in-Heavy-clause-walk c = grind (arith, trees)

pub returns-in-Outside-clause-sound : goal.returns-in-Outside-clause-sound
returns-in-Outside-clause-sound c = grind (arith, trees)

pub returns-in-Outside-clause-walk : goal.returns-in-Outside-clause-walk
returns-in-Outside-clause-walk c = grind (arith, trees)

pub returns-in-Sheet-clause-sound : goal.returns-in-Sheet-clause-sound
returns-in-Sheet-clause-sound c = grind (arith, trees)

pub returns-in-Sheet-clause-walk : goal.returns-in-Sheet-clause-walk
returns-in-Sheet-clause-walk c = grind (arith, trees)
