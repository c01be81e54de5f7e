use Rattle.std.proofs.Common.{arith}
use Rattle.std.proofs.lemmas.Grind.{common_steps}
use Rattle.gl_value.specs.Sound.{inside_from}
use Rattle.gl_value.proofs.sound.inside.Goals as goal

pub loop-a-init : goal.loop-a-init
loop-a-init c = grind (arith, inside_from)

pub loop-a-preserved : goal.loop-a-preserved
loop-a-preserved c = grind (arith, common_steps)

pub returns : goal.returns
returns c = grind (arith, common_steps)

pub returns-then-not-comes_after : goal.returns-then-not-comes_after
returns-then-not-comes_after c = grind (arith, common_steps)

pub returns-then-not-covers : goal.returns-then-not-covers
returns-then-not-covers c = grind (arith, common_steps)
