use Rattle.std.proofs.Common.{arith}
use Rattle.gl_value.specs.Forms.{trees}
use Rattle.gl_funs.proofs.numbers.modulo.Goals as goal

pub returns-in-Some-Some-clause-sound : goal.returns-in-Some-Some-clause-sound
returns-in-Some-Some-clause-sound c = grind (arith, trees)

pub returns-in-Some-Some-eq0-clause-sound : goal.returns-in-Some-Some-eq0-clause-sound
returns-in-Some-Some-eq0-clause-sound c = grind (arith, trees)

pub returns-in-Some-Some-eq0-clause-value : goal.returns-in-Some-Some-eq0-clause-value
returns-in-Some-Some-eq0-clause-value c = grind (arith, trees)

pub returns-in-Some-clause-sound : goal.returns-in-Some-clause-sound
returns-in-Some-clause-sound c = grind (arith, trees)

pub returns-in-Some-clause-value : goal.returns-in-Some-clause-value
returns-in-Some-clause-value c = grind (arith, trees)

pub returns-in_default-2-clause-sound : goal.returns-in_default-2-clause-sound
returns-in_default-2-clause-sound c = grind (arith, trees)

pub returns-in_default-2-clause-value : goal.returns-in_default-2-clause-value
returns-in_default-2-clause-value c = grind (arith, trees)
