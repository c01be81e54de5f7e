use Rattle.std.proofs.Common.{arith}
use Rattle.gl_value.specs.Forms.{trees}
use Rattle.gl_views.proofs.values.put_scalar.Goals as goal

pub returns-in-Blank : goal.returns-in-Blank
returns-in-Blank c = grind (arith, trees)

pub returns-in-Int : goal.returns-in-Int
returns-in-Int c = grind (arith, trees)

pub returns-in-Bool : goal.returns-in-Bool
returns-in-Bool c = grind (arith, trees)

pub returns-in-Text : goal.returns-in-Text
returns-in-Text c = grind (arith, trees)

pub returns-in-Err : goal.returns-in-Err
returns-in-Err c = grind (arith, trees)
