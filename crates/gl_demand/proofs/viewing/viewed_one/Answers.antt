use Rattle.std.proofs.Common.{arith}
use Rattle.gl_value.specs.Forms.{trees}
use Rattle.gl_demand.proofs.viewing.viewed_one.Goals as goal

pub read_in-requires : goal.read_in-requires
read_in-requires g c = grind (arith, trees)

pub returns-in-Blank-clause-sound : goal.returns-in-Blank-clause-sound
returns-in-Blank-clause-sound g c = grind (arith, trees)

pub returns-in-Blank-clause-walk : goal.returns-in-Blank-clause-walk
returns-in-Blank-clause-walk g c = grind (arith, trees)

pub returns-in-Err-clause-sound : goal.returns-in-Err-clause-sound
returns-in-Err-clause-sound g c = grind (arith, trees)

pub returns-in-Err-clause-walk : goal.returns-in-Err-clause-walk
returns-in-Err-clause-walk g c = grind (arith, trees)

pub returns-in-Sheet-clause-walk : goal.returns-in-Sheet-clause-walk
returns-in-Sheet-clause-walk g c = grind (arith, trees)
