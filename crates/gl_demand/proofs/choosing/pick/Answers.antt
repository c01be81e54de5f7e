use Rattle.std.proofs.Common.{arith}
use Rattle.gl_value.specs.Forms.{trees}
use Rattle.gl_demand.proofs.choosing.pick.Goals as goal

pub returns-in-Blank-clause-value : goal.returns-in-Blank-clause-value
returns-in-Blank-clause-value c = grind (arith, trees)

pub returns-in-Bool-false-clause-value : goal.returns-in-Bool-false-clause-value
returns-in-Bool-false-clause-value c = grind (arith, trees)

pub returns-in-Bool-true-clause-value : goal.returns-in-Bool-true-clause-value
returns-in-Bool-true-clause-value c = grind (arith, trees)

pub returns-in-Err-clause-sound : goal.returns-in-Err-clause-sound
returns-in-Err-clause-sound c = grind (arith, trees)

pub returns-in-Err-clause-value : goal.returns-in-Err-clause-value
returns-in-Err-clause-value c = grind (arith, trees)

pub returns-in-Int-clause-sound : goal.returns-in-Int-clause-sound
returns-in-Int-clause-sound c = grind (arith, trees)

pub returns-in-Int-clause-value : goal.returns-in-Int-clause-value
returns-in-Int-clause-value c = grind (arith, trees)

pub returns-in-Sheet-clause-sound : goal.returns-in-Sheet-clause-sound
returns-in-Sheet-clause-sound c = grind (arith, trees)

pub returns-in-Sheet-clause-value : goal.returns-in-Sheet-clause-value
returns-in-Sheet-clause-value c = grind (arith, trees)

pub returns-in-Text-clause-sound : goal.returns-in-Text-clause-sound
returns-in-Text-clause-sound c = grind (arith, trees)

pub returns-in-Text-clause-value : goal.returns-in-Text-clause-value
returns-in-Text-clause-value c = grind (arith, trees)
