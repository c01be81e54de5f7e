use Rattle.std.proofs.Common.{arith}
use Rattle.gl_value.specs.Forms.{trees}
use Rattle.gl_demand.proofs.choosing.chooses_at.Goals as goal

pub returns-in-Blank : goal.returns-in-Blank
returns-in-Blank c = grind (arith, trees)

pub returns-in-Bool-false : goal.returns-in-Bool-false
returns-in-Bool-false c = grind (arith, trees)

pub returns-in-Bool-true : goal.returns-in-Bool-true
returns-in-Bool-true c = grind (arith, trees)

pub returns-in-Err : goal.returns-in-Err
returns-in-Err c = grind (arith, trees)

pub returns-in-Int : goal.returns-in-Int
returns-in-Int c = grind (arith, trees)

pub returns-in-Sheet : goal.returns-in-Sheet
returns-in-Sheet c = grind (arith, trees)

pub returns-in-Text : goal.returns-in-Text
returns-in-Text c = grind (arith, trees)
