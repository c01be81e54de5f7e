use Rattle.std.proofs.Common.{arith}
use Rattle.gl_value.specs.Forms.{trees}
use Rattle.gl_funs.proofs.texts.plain.Goals as goal

pub returns-in-Int-clause-value : goal.returns-in-Int-clause-value
returns-in-Int-clause-value c = grind (arith, trees)

pub returns-in_ok-clone-in-Text-clause-sound : goal.returns-in_ok-clone-in-Text-clause-sound
returns-in_ok-clone-in-Text-clause-sound c = grind (arith, trees)

pub returns-in_ok-clone-in-Text-clause-value : goal.returns-in_ok-clone-in-Text-clause-value
returns-in_ok-clone-in-Text-clause-value c = grind (arith, trees)

pub returns-in_ok-from_str-in-Bool-false-clause-value : goal.returns-in_ok-from_str-in-Bool-false-clause-value
returns-in_ok-from_str-in-Bool-false-clause-value c = grind (arith, trees)

pub returns-in_ok-from_str-in-Bool-true-clause-value : goal.returns-in_ok-from_str-in-Bool-true-clause-value
returns-in_ok-from_str-in-Bool-true-clause-value c = grind (arith, trees)
