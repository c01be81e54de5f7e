use Rattle.std.proofs.Common.{arith}
use Rattle.gl_value.specs.Forms.{trees}
use Rattle.gl_demand.proofs.making.this.Goals as goal

pub returns-in-Ok-clause-sound : goal.returns-in-Ok-clause-sound
returns-in-Ok-clause-sound g c = grind (arith, trees)

pub returns-in-Ok-clause-value : goal.returns-in-Ok-clause-value
returns-in-Ok-clause-value g c = grind (arith, trees)

pub returns-in-Top-clause-sound : goal.returns-in-Top-clause-sound
returns-in-Top-clause-sound g c = grind (arith, trees)

pub returns-in-Top-clause-value : goal.returns-in-Top-clause-value
returns-in-Top-clause-value g c = grind (arith, trees)
