use Rattle.std.proofs.Common.{arith}
use Rattle.std.proofs.lemmas.Grind.{common_steps}
use Rattle.gl_value.specs.Forms.{trees}
use Rattle.gl_arrays.proofs.stacks.stacked.Goals as goal

pub loop-v-preserved : goal.loop-v-preserved
loop-v-preserved c = grind (arith, common_steps)

pub returns-clause-sound : goal.returns-clause-sound
returns-clause-sound c = grind (arith, trees)

pub returns-then-at-extent-clause-value : goal.returns-then-at-extent-clause-value
returns-then-at-extent-clause-value c = grind (arith, common_steps)
