use Rattle.std.proofs.Common.{arith}
use Rattle.gl_value.specs.Forms.{trees}
use Rattle.gl_demand.proofs.making.updated_scalar.Goals as goal

pub returns-in-Blank-clause-sound : goal.returns-in-Blank-clause-sound
returns-in-Blank-clause-sound g c = grind (arith, trees)

pub returns-in-Blank-clause-walk : goal.returns-in-Blank-clause-walk
returns-in-Blank-clause-walk g c = grind (arith, trees)

pub returns-in-Err-clause-sound : goal.returns-in-Err-clause-sound
returns-in-Err-clause-sound g c = grind (arith, trees)

pub returns-in-Err-clause-walk : goal.returns-in-Err-clause-walk
returns-in-Err-clause-walk g c = grind (arith, trees)

pub returns-in-Ok-clause-walk : goal.returns-in-Ok-clause-walk
returns-in-Ok-clause-walk g c = grind (arith, trees)

pub update-requires-clause-sheet : goal.update-requires-clause-sheet
update-requires-clause-sheet g c = grind (arith, trees)
