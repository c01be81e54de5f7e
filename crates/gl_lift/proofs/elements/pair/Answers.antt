use Rattle.std.proofs.Common.{arith}
use Rattle.std.proofs.lemmas.Grind.{common_steps}
use Rattle.gl_value.specs.Forms.{trees}
use Rattle.gl_lift.proofs.elements.pair.Goals as goal

pub returns-clause-value : goal.returns-clause-value
returns-clause-value g c = grind (arith, common_steps)

pub returns-in_default-clause-sound : goal.returns-in_default-clause-sound
returns-in_default-clause-sound g c = grind (arith, trees)

pub returns-in_default-clause-value : goal.returns-in_default-clause-value
returns-in_default-clause-value g c = grind (arith, trees)

pub returns-in_default-reached-clause-sound : goal.returns-in_default-reached-clause-sound
returns-in_default-reached-clause-sound g c = grind (arith, trees)

pub returns-in_default-reached-clause-value : goal.returns-in_default-reached-clause-value
returns-in_default-reached-clause-value g c = grind (arith, trees)
