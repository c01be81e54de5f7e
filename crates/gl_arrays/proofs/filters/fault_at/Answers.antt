use Rattle.std.proofs.Common.{arith}
use Rattle.gl_value.specs.Forms.{trees}
use Rattle.gl_arrays.proofs.filters.fault_at.Goals as goal

pub returns-in-Some-Blank : goal.returns-in-Some-Blank
returns-in-Some-Blank c = grind (arith, trees)

pub returns-in-Some-Bool : goal.returns-in-Some-Bool
returns-in-Some-Bool c = grind (arith, trees)
