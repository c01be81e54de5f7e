use Rattle.std.proofs.Common.{arith}
use Rattle.gl_value.specs.Forms.{trees}
use Rattle.gl_scalar.proofs.negate.Goals as goal

pub returns-in-Blank-clause-sound : goal.returns-in-Blank-clause-sound
returns-in-Blank-clause-sound c = grind (arith, trees)

pub returns-in-Blank-clause-value : goal.returns-in-Blank-clause-value
returns-in-Blank-clause-value c = grind (arith, trees)

pub returns-in-Err-clause-sound : goal.returns-in-Err-clause-sound
returns-in-Err-clause-sound c = grind (arith, trees)

pub returns-in-Err-clause-value : goal.returns-in-Err-clause-value
returns-in-Err-clause-value c = grind (arith, trees)

pub returns-in-Int-clause-value : goal.returns-in-Int-clause-value
returns-in-Int-clause-value c = grind (arith, trees)

pub returns-in_default-clause-sound : goal.returns-in_default-clause-sound
returns-in_default-clause-sound c = grind (arith, trees)
