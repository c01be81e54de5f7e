use Rattle.std.proofs.Common.{arith}
use Rattle.gl_value.specs.Forms.{trees}
use Rattle.gl_demand.proofs.choosing.in_place.Goals as goal

pub returns-in-Blank-clause-value : goal.returns-in-Blank-clause-value
returns-in-Blank-clause-value c = grind (arith, trees)

pub returns-in-Bool-clause-value : goal.returns-in-Bool-clause-value
returns-in-Bool-clause-value c = grind (arith, trees)

pub returns-in-Err-clause-value : goal.returns-in-Err-clause-value
returns-in-Err-clause-value c = grind (arith, trees)

pub returns-in-Int-clause-value : goal.returns-in-Int-clause-value
returns-in-Int-clause-value c = grind (arith, trees)

pub returns-in-Sheet-clause-value : goal.returns-in-Sheet-clause-value
returns-in-Sheet-clause-value c = grind (arith, trees)

pub returns-in-Text-clause-value : goal.returns-in-Text-clause-value
returns-in-Text-clause-value c = grind (arith, trees)
