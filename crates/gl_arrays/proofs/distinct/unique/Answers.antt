use Rattle.std.proofs.Common.{arith}
use Rattle.gl_value.specs.Forms.{trees}
use Rattle.gl_arrays.proofs.distinct.unique.Goals as goal

pub returns-in-Array-clause-value : goal.returns-in-Array-clause-value
returns-in-Array-clause-value c = grind (arith, trees)

pub returns-in_ok-share-in-One-clause-sound : goal.returns-in_ok-share-in-One-clause-sound
returns-in_ok-share-in-One-clause-sound c = grind (arith, trees)

pub returns-in_ok-share-in-One-clause-value : goal.returns-in_ok-share-in-One-clause-value
returns-in_ok-share-in-One-clause-value c = grind (arith, trees)
