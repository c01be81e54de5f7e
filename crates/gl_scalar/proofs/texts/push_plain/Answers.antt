use Rattle.std.proofs.Common.{arith}
use Rattle.gl_value.specs.Forms.{trees}
use Rattle.gl_scalar.proofs.texts.push_plain.Goals as goal

pub returns-in-Bool-false : goal.returns-in-Bool-false
returns-in-Bool-false c = grind (arith, trees)

pub returns-in-Bool-true : goal.returns-in-Bool-true
returns-in-Bool-true c = grind (arith, trees)

pub returns-in-Int : goal.returns-in-Int
returns-in-Int c = grind (arith, trees)

pub returns-in-Text : goal.returns-in-Text
returns-in-Text c = grind (arith, trees)
